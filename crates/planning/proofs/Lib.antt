mod Listing
mod Plans
