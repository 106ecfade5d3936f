-- CLAIMS. What a user of the listing relies on beside the contract of `list`.
use Rattle.std.specs.Prelude.{◌≡◌, ℕ, List, take}
use Rattle.listing.specs.Listing.{input_bytes, listing_of}
use Rattle.listing.proofs.ListingLaws as laws

-- FIRST BYTES DECIDE. The listing of an input is that of its first bytes, as many as the largest right input and one more. So the program, which reads no
-- further, prints the listing of all that standard input holds.
pub first_bytes_decide : (input : List ℕ) → listing_of (take input_bytes input) ≡ listing_of input
first_bytes_decide = laws.first_bytes_decide
