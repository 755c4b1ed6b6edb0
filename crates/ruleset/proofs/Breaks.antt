-- The length of breaks, one by one from the first, and the two sources of breaks: numbers in pairs, and records of a file. Assumes nothing.
use Rattle.std.proofs.Common.{◌≡◌, ℕ, zero, suc, ◌+◌, ◌*◌, true, false, List, [], ◌∷◌, ◌++◌, length, get_or, map, ℤ, pos, ◌+ℤ◌, subst, sym, refl, ap, ◌∙◌, arith}
use Rattle.std.specs.Prelude.{Option, Some, None}
use Rattle.std.specs.Iterator.{Yields, AlwaysYields}
use Rattle.std.specs.List.{range_with_len}
use Rattle.std.specs.Slice.Iter.{chunks_exact_rest, chunks_exact_size, chunks_exact_steps}
use Rattle.std.proofs.iter.Yields.{gives_left, gives_Drains}
use Rattle.std.proofs.lemmas.Iterator.{YieldsList}
use Rattle.std.proofs.lemmas.List.{append_assoc, append-nil, map-id, length-append}
use lib.IntN.{+ℤ_assoc, +ℤ_idr}
use lib.Ieee.{Float, lt, nan}
use Rattle.records.specs.declared.beatmap.BreakPeriod.{BreakPeriod}
use Rattle.ruleset.specs.Drain.{length_of, breaks_length, breaks_of, break_at, breaks_from}

first_counts : (last : Float) (b : BreakPeriod) (more : List BreakPeriod) → lt b.end_time last ≡ true → breaks_length last (b ∷ more) ≡ length_of b.start_time b.end_time +ℤ breaks_length last more
unfolding breaks_length
first_counts last b more h = simp h

first_ends : (last : Float) (b : BreakPeriod) (more : List BreakPeriod) → lt b.end_time last ≡ false → breaks_length last (b ∷ more) ≡ pos 0
unfolding breaks_length
first_ends last b more h = simp h

module _ (last : Float) (t : ℤ) (seen : List BreakPeriod) where
  -- t is the length of the breaks that were seen, whatever follows them
  abbrev pub Counted : Type 0
  Counted = (more : List BreakPeriod) → t +ℤ breaks_length last more ≡ breaks_length last (seen ++ more)

  module _ (counted : Counted) where
    pub goes_on : (b : BreakPeriod) (more : List BreakPeriod) → lt b.end_time last ≡ true → (t +ℤ length_of b.start_time b.end_time) +ℤ breaks_length last more ≡ breaks_length last ((seen ++ (b ∷ [])) ++ more)
    goes_on b more h =
        +ℤ_assoc t (length_of b.start_time b.end_time) (breaks_length last more) ∙ ap (λ (z : ℤ). t +ℤ z) (sym (first_counts last b more h)) ∙ counted (b ∷ more) ∙ ap (breaks_length last) (sym (append_assoc seen (b ∷ []) more))

    stops_at : (b : BreakPeriod) (more : List BreakPeriod) → lt b.end_time last ≡ false → t ≡ breaks_length last (seen ++ (b ∷ more))
    stops_at b more h = sym (ap (λ (z : ℤ). t +ℤ z) (first_ends last b more h) ∙ +ℤ_idr t) ∙ counted (b ∷ more)

    all_counted : t ≡ breaks_length last seen
    unfolding breaks_length
    all_counted = sym (+ℤ_idr t) ∙ counted [] ∙ ap (breaks_length last) (append-nil seen)

-- an iterator that gives the breaks: at the first that does not count, and at its end
module _ {S : Type 0} (steps : S → Option BreakPeriod → S → Type 0) (last : Float) (t : ℤ) (seen periods : List BreakPeriod) (start i j k : S) (given : i ≡ start)
    (counted : Counted last t seen) (before : Yields steps i seen j) (all : AlwaysYields steps (λ b. b) start periods) where
  from : AlwaysYields steps (λ b. b) i periods
  from = subst (λ (s : S). AlwaysYields steps (λ b. b) s periods) (sym given) all

  pub stops : (b : BreakPeriod) → lt b.end_time last ≡ false → steps j (Some b) k → t ≡ breaks_length last periods
  stops b h step = let left = gives_left steps (λ b. b) seen periods i j from before in go left.0 left.2 ∙ ap (breaks_length last) (sym (left.1 ∙ ap (λ l. l ++ left.0) (map-id seen)))
    where
      go : (more : List BreakPeriod) → AlwaysYields steps (λ b. b) j more → t ≡ breaks_length last (seen ++ more)
      go [] none = absurd (none b k step)
      go (c ∷ more) next = let e : b ≡ c = (next.1 b k step).0 in stops_at last t seen counted c more (rw e at h)

  pub ends : steps j None k → t ≡ breaks_length last periods
  ends step = all_counted last t seen counted ∙ ap (breaks_length last) (sym (map-id seen) ∙ gives_Drains steps (λ b. b) seen periods i from (k, (j, before, step)))

-- what was said of each list that an iterator gives, at one of them
pub length_at : {S : Type 0} {steps : S → Option BreakPeriod → S → Type 0} {s : S} {r : ℤ} (last : Float)
    → ((periods : List BreakPeriod) → AlwaysYields steps (λ b. b) s periods → r ≡ breaks_length last periods) → {l m : List BreakPeriod} → l ≡ m → YieldsList steps (λ b. b) s l → r ≡ breaks_length last m
length_at last h {l} e y = h l y.runs ∙ ap (breaks_length last) e

-- ---- breaks as numbers
abbrev pub pair : List Float → BreakPeriod
pair l = record { start_time = get_or l 0 nan; end_time = get_or l 1 nan }

two : (a b : Float) (l xs rest : List Float) → a ∷ b ∷ xs ≡ l ++ rest → length l ≡ 2 → (pair l ≡ record { start_time = a; end_time = b }) × (rest ≡ xs)
two a b [] xs rest e n = absurd (omega (arith, n))
two a b (c ∷ []) xs rest e n = absurd (omega (arith, n))
two a b (c ∷ d ∷ []) xs rest e n = (cc, cc)
two a b (c ∷ d ∷ x ∷ l) xs rest e n = absurd (omega (arith, n))

pairs_given-by : (l : List Float) (s : _) → chunks_exact_rest s ≡ l → chunks_exact_size s ≡ 2 → AlwaysYields chunks_exact_steps (λ x. pair x.now) s (breaks_of l)
unfolding breaks_of
pairs_given-by [] s e n = λ x j p. absurd (omega (arith, ap length e, ap length p.1.0, p.1.1, n, length-append x.now (chunks_exact_rest j)))
pairs_given-by (a ∷ []) s e n = λ x j p. absurd (omega (arith, ap length e, ap length p.1.0, p.1.1, n, length-append x.now (chunks_exact_rest j)))
pairs_given-by (a ∷ b ∷ l) s e n = (
  (λ j p. absurd (omega (arith, ap length e, p.1.0, n))),
  λ x j p. let k = two a b x.now l (chunks_exact_rest j) (sym e ∙ p.1.0) (p.1.1 ∙ n) in (k.0, pairs_given-by l j k.1 (p.0 ∙ n)),
)

pub pairs_given : (l : List Float) (s : _) → chunks_exact_rest s ≡ l → chunks_exact_size s ≡ 2 → YieldsList chunks_exact_steps (λ x. pair x.now) s (breaks_of l)
pairs_given l s e n = record { runs = pairs_given-by l s e n }

-- ---- break records
pub records_given : (s : List ℕ) (i n : ℕ) → breaks_from s (14 + 18 * i) n ≡ map (λ (k : ℕ). break_at s (14 + 18 * k)) (range_with_len i n)
unfolding breaks_from
records_given s i zero = refl
records_given s i (suc n) =
    let e : 14 + 18 * i + 18 ≡ 14 + 18 * (i + 1) = omega arith in
    ap (λ (l : List BreakPeriod). break_at s (14 + 18 * i) ∷ l) (ap (λ (at : ℕ). breaks_from s at n) e ∙ records_given s (i + 1) n)
