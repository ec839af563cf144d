mod Lifts
