-- What is left to be found after each field; `left_n` stands behind field N.
use mathlib.Core.Path.{sym}
use Prim.Native.Nat.{◌+◌}
use native.Mathlib.Omega.{arith}
use Rattle.lines.proofs.Splits.{Left, left_all, left_next, left_none, left_last, spaced_at, last_at, five}
use Rattle.lines.proofs.Lines.split_line.Goals as goal
use Rattle.lines.proofs.Lines.split_line.Goals.{In_ok-kind, In_ok-name, In_ok-a, In_ok-b}

left1 : (c : In_ok-kind) → Left c.args.self.text.now c.args.from 4 (c.in_ok-kind.kind + 1)
left1 c =
    let s = c.args.self in
    left_next s.text.now s.ends s.allowed c.args.from 4 c.args.from c.in_ok-kind.kind (left_all s.text.now s.ends s.allowed c.args.from c.requires) (sym c.in_ok-kind.ensures)

left2 : (c : In_ok-name) → Left c.args.self.text.now c.args.from 3 (c.in_ok-name.name + 1)
left2 c =
    let s = c.args.self in
    left_next s.text.now s.ends s.allowed c.args.from 3 (c.in_ok-kind.kind + 1) c.in_ok-name.name (left1 (goal.at.In_ok-name c).In_ok-kind) (sym c.in_ok-name.ensures)

left3 : (c : In_ok-a) → Left c.args.self.text.now c.args.from 2 (c.in_ok-a.a + 1)
left3 c =
    let s = c.args.self in
    left_next s.text.now s.ends s.allowed c.args.from 2 (c.in_ok-name.name + 1) c.in_ok-a.a (left2 (goal.at.In_ok-a c).In_ok-name) (sym c.in_ok-a.ensures)

left4 : (c : In_ok-b) → Left c.args.self.text.now c.args.from 1 (c.in_ok-b.b + 1)
left4 c =
    let s = c.args.self in
    left_next s.text.now s.ends s.allowed c.args.from 1 (c.in_ok-a.a + 1) c.in_ok-b.b (left3 (goal.at.In_ok-b c).In_ok-a) (sym c.in_ok-b.ensures)

pub returns-in_err-kind : goal.returns-in_err-kind
returns-in_err-kind c =
    let s = c.args.self in
    rw c.from_residual.ensures (left_none s.text.now s.ends s.allowed c.args.from 3 c.args.from (left_all s.text.now s.ends s.allowed c.args.from c.requires) (sym c.in_err-kind.ensures))

pub overflow_add-kind : goal.overflow_add-kind
overflow_add-kind c =
    let l = left1 (goal.at.overflow_add-kind c).In_ok-kind in
    omega (arith, l.here)

pub field_end-requires-2 : goal.field_end-requires-2
field_end-requires-2 c =
    let l = left1 (goal.at.field_end-requires-2 c).In_ok-kind in
    (l.here, c.args.self.ends, c.args.self.size)

pub returns-in_err-name : goal.returns-in_err-name
returns-in_err-name c =
    let s = c.args.self in
    rw c.from_residual-in_err-name.ensures (left_none s.text.now s.ends s.allowed c.args.from 2 (c.in_ok-kind.kind + 1) (left1 (goal.at.returns-in_err-name c).In_ok-kind) (sym c.in_err-name.ensures))

pub overflow_add-name : goal.overflow_add-name
overflow_add-name c =
    let l = left2 (goal.at.overflow_add-name c).In_ok-name in
    omega (arith, l.here)

pub field_end-requires-3 : goal.field_end-requires-3
field_end-requires-3 c =
    let l = left2 (goal.at.field_end-requires-3 c).In_ok-name in
    (l.here, c.args.self.ends, c.args.self.size)

pub returns-in_err-a : goal.returns-in_err-a
returns-in_err-a c =
    let s = c.args.self in
    rw c.from_residual-in_err-a.ensures (left_none s.text.now s.ends s.allowed c.args.from 1 (c.in_ok-name.name + 1) (left2 (goal.at.returns-in_err-a c).In_ok-name) (sym c.in_err-a.ensures))

pub overflow_add-a : goal.overflow_add-a
overflow_add-a c =
    let l = left3 (goal.at.overflow_add-a c).In_ok-a in
    omega (arith, l.here)

pub field_end-requires-4 : goal.field_end-requires-4
field_end-requires-4 c =
    let l = left3 (goal.at.field_end-requires-4 c).In_ok-a in
    (l.here, c.args.self.ends, c.args.self.size)

pub returns-in_err-b : goal.returns-in_err-b
returns-in_err-b c =
    let s = c.args.self in
    rw c.from_residual-in_err-b.ensures (left_none s.text.now s.ends s.allowed c.args.from 0 (c.in_ok-a.a + 1) (left3 (goal.at.returns-in_err-b c).In_ok-a) (sym c.in_err-b.ensures))

pub overflow_add-b : goal.overflow_add-b
overflow_add-b c =
    let l = left4 (goal.at.overflow_add-b c).In_ok-b in
    omega (arith, l.here)

pub field_end-requires-5 : goal.field_end-requires-5
field_end-requires-5 c =
    let l = left4 (goal.at.field_end-requires-5 c).In_ok-b in
    (l.here, c.args.self.ends, c.args.self.size)

pub returns-in_err-c : goal.returns-in_err-c
returns-in_err-c c =
    let s = c.args.self in
    rw c.from_residual-in_err-c.ensures (left_last s.text.now s.ends s.allowed c.args.from (c.in_ok-b.b + 1) (left4 (goal.at.returns-in_err-c c).In_ok-b) (sym c.in_err-c.ensures))

pub returns : goal.returns
returns c =
    let p = goal.at.returns c in
    let s = c.args.self in
    let l1 = left1 p.In_ok-kind in
    let l2 = left2 p.In_ok-name in
    let l3 = left3 p.In_ok-a in
    let l4 = left4 p.In_ok-b in
    five s.text.now c.args.from
    (record { kind = c.in_ok-kind.kind; name = c.in_ok-name.name; a = c.in_ok-a.a; b = c.in_ok-b.b; c = c.in_ok-c.c })
    (spaced_at s.text.now s.ends s.allowed c.args.from c.args.from c.in_ok-kind.kind c.requires (sym c.in_ok-kind.ensures))
    (spaced_at s.text.now s.ends s.allowed c.args.from (c.in_ok-kind.kind + 1) c.in_ok-name.name l1.here (sym c.in_ok-name.ensures))
    (spaced_at s.text.now s.ends s.allowed c.args.from (c.in_ok-name.name + 1) c.in_ok-a.a l2.here (sym c.in_ok-a.ensures))
    (spaced_at s.text.now s.ends s.allowed c.args.from (c.in_ok-a.a + 1) c.in_ok-b.b l3.here (sym c.in_ok-b.ensures))
    (last_at s.text.now s.ends s.allowed c.args.from (c.in_ok-b.b + 1) c.in_ok-c.c l4.here (sym c.in_ok-c.ensures))
