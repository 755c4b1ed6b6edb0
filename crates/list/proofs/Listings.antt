-- The program's space is longer than any listing, so that each stands whole at its front.
use Rattle.std.specs.Prelude.{Some, None}
use Rattle.std.proofs.Common.{◌≡◌, ℕ, ◌<◌, ◌≤◌, ◌⊎◌, List, length, take, ap, ◌∙◌, inl, inr, length-take-le, take_all, arith}
use Rattle.std.proofs.lemmas.Bool.{cases_lt, lt-ltb}
use Rattle.text.specs.Space.{put_at}
use Rattle.text.proofs.Space.{take_put_front}
use Rattle.listing.specs.Listing.{input_text, listed_of}
use Rattle.listing.proofs.Fits.{listing_short, listing_told}

module _ (input old new : List ℕ) (after : new ≡ put_at old 0 (input_text input)) (long : length old ≡ 262144) where
  pub no_room : None ≡ listed_of (input_text input) (length old) → ⊥
  no_room was = let told = was ∙ ap (listed_of (input_text input)) long ∙ listing_told input in cc

  pub front_listed : (count : ℕ) → Some count ≡ listed_of (input_text input) (length old) → take count new ≡ input_text input
  front_listed count was =
      let told = was ∙ ap (listed_of (input_text input)) long ∙ listing_told input in
      let whole : count ≡ length (input_text input) = cc in
      let short = listing_short input in
      ap (take count) after ∙ rw whole (take_put_front old (input_text input) (omega arith))

-- one byte more than the program takes tells that an input is longer
pub input_text-take : (bytes : List ℕ) → input_text (take 65537 bytes) ≡ input_text bytes
unfolding input_text
input_text-take bytes = go (cases_lt 65536 (length bytes))
  where
    go : (65536 < length bytes) ⊎ (length bytes ≤ 65536) → input_text (take 65537 bytes) ≡ input_text bytes
    go (inl long) =
        let cut = length-take-le 65537 bytes (omega (arith, long)) in
        let told : 65536 < length (take 65537 bytes) = omega (arith, cut) in
        simp (lt-ltb 65536 (length bytes) long, lt-ltb 65536 (length (take 65537 bytes)) told)
    go (inr short) = ap input_text (take_all 65537 bytes (omega (arith, short)))
