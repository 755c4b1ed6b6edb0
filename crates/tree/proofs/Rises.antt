-- A climb in two passes: where what is read and the last sum are within their limits, so was each sum before it, and what is written from the bottom up
-- is what a climb leaves, since no store touches what is read or stored above it.
use Prim.Native.Nat.{ℕ, zero, suc, ◌+◌, ◌*◌, ◌/◌, ◌%◌, ◌^◌, ◌≤◌, ◌<◌}
use mathlib.Core.Path.{◌≡◌, refl, sym, ap, ap₂, ◌∙◌, subst}
use mathlib.Core.Logic.{◌≢◌}
use mathlib.Core.Bool.{Bool, true, false, cond}
use mathlib.Core.List.{List}
use native.Mathlib.Omega.{arith}
use native.Mathlib.Nat.{pow-suc}
use native.Mathlib.Decide.{ℕ_discrete}
use borrow.Author.Tests.{eq-eqb, ne_eqb}
use lib.Dec.{eqb, lit<}
use lib.ListN.{length}
use lib.Pow.{pow_pos}
use Rattle.rules.specs.Limits.{max_levels, max_objects}
use Rattle.rules.specs.Refusals.{good}
use Rattle.rules.proofs.Steps.{bind_good}
use Rattle.entries.specs.Entry.{joined, in_limits, SumOf, place_words}
use Rattle.entries.specs.Words.{entry_at, put_entry}
use Rattle.entries.specs.declared.entry.Entry.{Entry}
use Rattle.entries.proofs.Limits.{word_le, word_joined, first_most, sum_of_entry, sum_of_more, sum_of-joined, sum_of_led}
use Rattle.entries.proofs.WordLaws.{put_same, put_other, put_past, put_length}
use Rattle.tree.specs.Put.{beside_of, above_of, climbed, joined_at, top_of, ReadsIn, Clear, written_up}
use Rattle.tree.proofs.Climbs.{above_is, limited-in_limits, one_level}
use Rattle.tree.proofs.Within.{parts_in}

-- ---- the way up

half_path : (n e : ℕ) → 2 ^ suc n ≤ e → 2 ^ n ≤ e / 2
half_path n e h = let p = pow-suc 2 n in omega (arith, p, h)

path_two : (n e : ℕ) → 2 ^ suc n ≤ e → 2 ≤ e
path_two n e h = let p = pow-suc 2 n in let q = pow_pos n in omega (arith, p, q, h)

beside_off : (e : ℕ) → beside_of e ≢ e
beside_off e = go (ℕ_discrete (e % 2) 0)
  where
    go : Dec (e % 2 ≡ 0) → beside_of e ≢ e
    go (yes d) = simp (eq-eqb _ _ d) (omega arith)
    go (no d) = simp (ne_eqb _ _ d) (omega arith)

-- what is read above x is not x
beside_below : (p x : ℕ) → 2 ≤ p → 2 * p ≤ x → beside_of p ≢ x
beside_below p x two h = go (ℕ_discrete (p % 2) 0)
  where
    go : Dec (p % 2 ≡ 0) → beside_of p ≢ x
    go (yes d) = simp (eq-eqb _ _ d) (omega arith)
    go (no d) = simp (ne_eqb _ _ d) (omega arith)

-- ---- a store below the way

reads_put : (n : ℕ) (b : List ℕ) (p x : ℕ) (w : Entry) → 2 ^ n ≤ p → 2 * p ≤ x → ReadsIn n b p → ReadsIn n (put_entry b x w) p
unfolding ReadsIn
reads_put zero b p x w path h r = tt
reads_put (suc n) b p x w path h r = (
  ap in_limits (put_other b x (beside_of p) w (beside_below p x (path_two n p path) h)) ∙ r.0,
  reads_put n b (p / 2) x w (half_path n p path) (omega arith) r.1,
)

written_put : (n : ℕ) (b : List ℕ) (p x : ℕ) (u w : Entry) → 2 ^ n ≤ p → 2 * p ≤ x → written_up n (put_entry b x w) p u ≡ put_entry (written_up n b p u) x w
unfolding written_up
written_put zero b p x u w path h = put_past b p x u w (omega arith)
written_put (suc n) b p x u w path h =
    let two = path_two n p path in
    ap₂ (λ (l : List ℕ) (y : Entry). written_up n l (p / 2) (joined_at p u y)) (put_past b p x u w (omega arith)) (put_other b x (beside_of p) w (beside_below p x two h))
    ∙ written_put n (put_entry b p u) (p / 2) x (joined_at p u (entry_at b (beside_of p))) w (half_path n p path) (omega arith)

top_put : (n : ℕ) (b : List ℕ) (p x : ℕ) (u w : Entry) → 2 ^ n ≤ p → 2 * p ≤ x → top_of n (put_entry b x w) p u ≡ top_of n b p u
unfolding top_of
top_put zero b p x u w path h = refl
top_put (suc n) b p x u w path h =
    ap (λ (y : Entry). top_of n (put_entry b x w) (p / 2) (joined_at p u y)) (put_other b x (beside_of p) w (beside_below p x (path_two n p path) h))
    ∙ top_put n b (p / 2) x (joined_at p u (entry_at b (beside_of p))) w (half_path n p path) (omega arith)

-- ---- one level up

either : (P : Entry → Type 0) (x y : Entry) (l : Bool) → P x → P y → P (cond l x y)
either P x y true h g = h
either P x y false h g = g

joined_either : (P : Entry → Type 0) (e : ℕ) (v w : Entry) → P (joined v w) → P (joined w v) → P (joined_at e v w)
joined_either P e v w = either P (joined v w) (joined w v) (eqb (e % 2) 0)

even_side : (e : ℕ) (v w : Entry) → e % 2 ≡ 0 → joined v w ≡ joined_at e v w
even_side e v w d = simp (eq-eqb _ _ d)

odd_side : (e : ℕ) (v w : Entry) → e % 2 ≢ 0 → joined w v ≡ joined_at e v w
odd_side e v w d = simp (ne_eqb _ _ d)

joined_first : (e : ℕ) (v w : Entry) → v.first_no_slider ≤ 1 → w.first_no_slider ≤ 1 → (joined_at e v w).first_no_slider ≤ 1
joined_first e v w hv hw = joined_either (λ (j : Entry). j.first_no_slider ≤ 1) e v w (first_most v w 1 hv hw) (first_most w v 1 hw hv)

joined-part : (e : ℕ) (v w : Entry) → v.first_no_slider ≤ 1 → w.first_no_slider ≤ 1 → in_limits (joined_at e v w) ≡ true → in_limits v ≡ true
joined-part e v w hv hw = joined_either (λ (j : Entry). in_limits j ≡ true → in_limits v ≡ true) e v w (λ h. (parts_in v w hv hw h).0) (λ h. (parts_in w v hw hv h).1)

-- ---- what is clear goes well

clear_good : (n : ℕ) (b : List ℕ) (e : ℕ) (v : Entry) → 2 ^ n ≤ e → v.first_no_slider ≤ 1 → ReadsIn n b e → in_limits (top_of n b e v) ≡ true
    → (in_limits v ≡ true) × (climbed n b e v ≡ good (written_up n b e v))
unfolding ReadsIn top_of climbed written_up
clear_good zero b e v path first r top = (top, refl)
clear_good (suc n) b e v path first r top =
    let w = entry_at b (beside_of e) in
    let u = joined_at e v w in
    let first-w : w.first_no_slider ≤ 1 = word_le w r.0 3 (lit< tt) in
    let ih = clear_good n b (e / 2) u (half_path n e path) (joined_first e v w first first-w) r.1 top in
    let q : above_of e v w ≡ good u = above_is e v w u r.0 refl ∙ limited-in_limits u ih.0 in
    let on : climbed (suc n) b e v ≡ good (put_entry (written_up n b (e / 2) u) e v) = one_level n b e v w (good u) refl q ∙ rw (bind_good, ih.1, bind_good) in
    let up = written_put n b (e / 2) e u v (half_path n e path) (omega arith) in
    (joined-part e v w first first-w ih.0, on ∙ ap good (sym up))

pub clear_climbs : (n : ℕ) (b : List ℕ) (e : ℕ) (v : Entry) → in_limits v ≡ true → Clear n b e v → climbed n b e v ≡ good (written_up n b e v)
clear_climbs n b e v fit c = (clear_good n b e v c.path (word_le v fit 3 (lit< tt)) c.reads c.top).1

-- ---- the first pass: how many entries the sum is of, so that the next join fits

pub record Rising (levels left at : ℕ) (sum : Entry) : Type 0 where
  pub taken : ℕ
  pub few : taken + left ≤ levels + 1
  pub path : 2 ^ left ≤ at
  pub sums : SumOf taken sum
  pub count : sum.object_count ≤ taken * max_objects

rising_start : (levels e : ℕ) (v : Entry) → 2 ^ levels ≤ e → in_limits v ≡ true → Rising levels levels e v
rising_start levels e v path fit =
    let c : v.object_count ≤ max_objects = word_le v fit 0 (lit< tt) in
    record { taken = 1; few = omega arith; path = path; sums = sum_of_entry v fit; count = omega (arith, c) }

module _ {levels left at : ℕ} {sum : Entry} (k : Rising levels left at sum) (short : levels ≤ max_levels) where
  pub sum_fits : SumOf (max_levels + 1) sum × (sum.object_count ≤ (max_levels + 1) * max_objects)
  sum_fits =
      let f = k.few in
      let c = k.count in
      (sum_of_more k.taken (max_levels + 1) sum (omega (arith, f, short)) k.sums, omega (arith, f, c, short))

  rising_next : (n : ℕ) → left ≡ suc n → (w : Entry) → in_limits w ≡ true → Rising levels n (at / 2) (joined_at at sum w)
  rising_next n is w fit =
      let f = k.few in
      let room : k.taken < 14 = omega (arith, f, is, short) in
      record {
        taken = suc k.taken;
        few = omega (arith, f, is);
        path = half_path n at (subst (λ (m : ℕ). 2 ^ m ≤ at) is k.path);
        sums = joined_either (SumOf (suc k.taken)) at sum w (sum_of-joined k.taken sum w room k.sums fit) (sum_of_led k.taken sum w room k.sums fit k.count);
        count = joined_either (λ (j : Entry). j.object_count ≤ suc k.taken * max_objects) at sum w counted counted';
      }
    where
      low : w.object_count ≤ max_objects
      low = word_le w fit 0 (lit< tt)

      counted : (joined sum w).object_count ≤ suc k.taken * max_objects
      counted =
          let e : (joined sum w).object_count ≡ sum.object_count + w.object_count + 0 = word_joined sum w 0 (lit< tt) (omega arith) in
          let c = k.count in
          let l = low in
          omega (arith, e, c, l)

      counted' : (joined w sum).object_count ≤ suc k.taken * max_objects
      counted' =
          let e : (joined w sum).object_count ≡ w.object_count + sum.object_count + 0 = word_joined w sum 0 (lit< tt) (omega arith) in
          let c = k.count in
          let l = low in
          omega (arith, e, c, l)

-- the sum is that of the way so far
pub record Climbing (b : List ℕ) (levels e : ℕ) (v : Entry) (left at : ℕ) (sum : Entry) : Type 0 where
  pub rising : Rising levels left at sum
  pub room : at / 2 * place_words + place_words ≤ length b
  pub reads : ReadsIn left b at → ReadsIn levels b e
  pub top : top_of left b at sum ≡ top_of levels b e v

pub climbing_start : (b : List ℕ) (levels e : ℕ) (v : Entry) → 2 ^ levels ≤ e → in_limits v ≡ true → e / 2 * place_words + place_words ≤ length b → Climbing b levels e v levels e v
climbing_start b levels e v path fit room = record { rising = rising_start levels e v path fit; room = room; reads = λ r. r; top = refl }

module _ {b : List ℕ} {levels e : ℕ} {v : Entry} {left at : ℕ} {sum : Entry} (k : Climbing b levels e v left at sum) where
  pub climbing_next : (n : ℕ) → left ≡ suc n → levels ≤ max_levels → (w : Entry) → w ≡ entry_at b (beside_of at) → in_limits w ≡ true → Climbing b levels e v n (at / 2) (joined_at at sum w)
  unfolding ReadsIn top_of
  climbing_next n is short w read fit =
      let from = subst (λ (m : ℕ). ReadsIn m b at → ReadsIn levels b e) is k.reads in
      let top = subst (λ (m : ℕ). top_of m b at sum ≡ top_of levels b e v) is k.top in
      record {
        rising = rising_next k.rising short n is w fit;
        room = let r = k.room in omega (arith, r);
        reads = λ r. from (ap in_limits (sym read) ∙ fit, r);
        top = ap (λ (y : Entry). top_of n b (at / 2) (joined_at at sum y)) read ∙ top;
      }

  pub climbing_end : left ≤ 0 → levels ≤ max_levels → 2 ^ levels ≤ e → in_limits sum ≡ true → Clear levels b e v
  unfolding ReadsIn top_of
  climbing_end none short path fit =
      let z : left ≡ 0 = omega (arith, none) in
      let from = subst (λ (m : ℕ). ReadsIn m b at → ReadsIn levels b e) z k.reads in
      let top = subst (λ (m : ℕ). top_of m b at sum ≡ top_of levels b e v) z k.top in
      record { few = short; path = path; reads = from tt; top = ap in_limits (sym top) ∙ fit }

-- ---- the second pass

pub record Writing (b₀ : List ℕ) (levels e : ℕ) (v : Entry) (b : List ℕ) (left at : ℕ) (sum : Entry) : Type 0 where
  pub clear : Clear left b at sum
  pub first : sum.first_no_slider ≤ 1
  pub room : at / 2 * place_words + place_words ≤ length b
  pub size : length b ≡ length b₀
  pub written : written_up left b at sum ≡ written_up levels b₀ e v

pub writing_start : (b : List ℕ) (levels e : ℕ) (v : Entry) → Clear levels b e v → in_limits v ≡ true → e / 2 * place_words + place_words ≤ length b → Writing b levels e v b levels e v
writing_start b levels e v c fit room = record { clear = c; first = word_le v fit 3 (lit< tt); room = room; size = refl; written = refl }

module _ {b₀ : List ℕ} {levels e : ℕ} {v : Entry} {b : List ℕ} {left at : ℕ} {sum : Entry} (k : Writing b₀ levels e v b left at sum) where
  abbrev read : Entry
  read = entry_at b (beside_of at)

  read_in_from : (n : ℕ) → left ≡ suc n → in_limits read ≡ true
  unfolding ReadsIn
  read_in_from n is = (subst (λ (m : ℕ). ReadsIn m b at) is k.clear.reads).0

  sum_in : in_limits sum ≡ true
  sum_in = (clear_good left b at sum k.clear.path k.first k.clear.reads k.clear.top).0

  -- the two halves as they stand behind the store
  module _ (n : ℕ) (suc-n : left ≡ suc n) (b' : List ℕ) (is : b' ≡ put_entry b at sum) (l r : Entry) (at-l : l ≡ entry_at b' (at / 2 * 2)) (at-r : r ≡ entry_at b' (at / 2 * 2 + 1)) where
    stands : (x : ℕ) → x ≡ at → entry_at b' x ≡ sum
    stands x e = ap₂ entry_at is e ∙ put_same b at sum (let room = k.room in omega (arith, room))

    beside : (x : ℕ) → x ≡ beside_of at → entry_at b' x ≡ read
    beside x e = ap₂ entry_at is e ∙ put_other b at (beside_of at) sum (beside_off at)

    -- which is which
    abbrev Halves : Type 0
    Halves = (in_limits l ≡ true) × (in_limits r ≡ true) × (joined l r ≡ joined_at at sum read)

    halves_in : Dec (at % 2 ≡ 0) → Halves
    halves_in (yes d) =
        let here : at / 2 * 2 ≡ at = omega (arith, d) in
        let other : at / 2 * 2 + 1 ≡ beside_of at = simp (eq-eqb _ _ d) (omega (arith, here)) in
        let is-l = at-l ∙ stands (at / 2 * 2) here in
        let is-r = at-r ∙ beside (at / 2 * 2 + 1) other in
        (ap in_limits is-l ∙ sum_in, ap in_limits is-r ∙ read_in_from n suc-n, ap₂ joined is-l is-r ∙ even_side at sum read d)
    halves_in (no d) =
        let here : at / 2 * 2 + 1 ≡ at = omega (arith, d) in
        let other : at / 2 * 2 ≡ beside_of at = simp (ne_eqb _ _ d) (omega (arith, here)) in
        let is-l = at-l ∙ beside (at / 2 * 2) other in
        let is-r = at-r ∙ stands (at / 2 * 2 + 1) here in
        (ap in_limits is-l ∙ read_in_from n suc-n, ap in_limits is-r ∙ sum_in, ap₂ joined is-l is-r ∙ odd_side at sum read d)

    pub halves : Halves
    halves = halves_in (ℕ_discrete (at % 2) 0)

    writes_from : Writing b₀ levels e v (put_entry b at sum) n (at / 2) (joined_at at sum read)
    unfolding ReadsIn top_of written_up
    writes_from =
        let c = k.clear in
        let path = half_path n at (subst (λ (m : ℕ). 2 ^ m ≤ at) suc-n c.path) in
        let reads = subst (λ (m : ℕ). ReadsIn m b at) suc-n c.reads in
        let top = subst (λ (m : ℕ). in_limits (top_of m b at sum) ≡ true) suc-n c.top in
        let done = subst (λ (m : ℕ). written_up m b at sum ≡ written_up levels b₀ e v) suc-n k.written in
        let same = put_length b at sum in
        let room = k.room in
        let few = c.few in
        record {
          clear = record {
            few = omega (arith, few, suc-n);
            path = path;
            reads = reads_put n b (at / 2) at sum path (omega arith) reads.1;
            top = ap in_limits (top_put n b (at / 2) at (joined_at at sum read) sum path (omega arith)) ∙ top;
          };
          first = joined_first at sum read k.first (word_le read reads.0 3 (lit< tt));
          room = omega (arith, room, same);
          size = same ∙ k.size;
          written = done;
        }

    pub writing_next : (u : Entry) → u ≡ joined l r → Writing b₀ levels e v b' n (at / 2) u
    writing_next u is-u =
        subst (λ (x : Entry). Writing b₀ levels e v b' n (at / 2) x) (sym (is-u ∙ halves.2))
        (subst (λ (m : List ℕ). Writing b₀ levels e v m n (at / 2) (joined_at at sum read)) (sym is) writes_from)

  pub writing_end : left ≤ 0 → put_entry b at sum ≡ written_up levels b₀ e v
  unfolding written_up
  writing_end none =
      let z : left ≡ 0 = omega (arith, none) in
      subst (λ (m : ℕ). written_up m b at sum ≡ written_up levels b₀ e v) z k.written
