-- `cleared` and the steps of `raised`, as the code takes them.
use Prim.Native.Nat.{ℕ, zero, suc, ◌+◌, ◌-◌, ◌*◌, ◌≤◌, ◌<◌}
use mathlib.Core.Path.{◌≡◌, refl, sym, ap, ap₂, ◌∙◌}
use mathlib.Core.Bool.{true}
use mathlib.Core.List.{List, ◌++◌, append_assoc}
use native.Mathlib.Omega.{arith}
use native.Mathlib.Nat.{not-suc-le-zero}
use native.Mathlib.Numerals.{sub-one}
use lib.ListN.{length, replicate, take, drop, length-replicate}
use lib.Seq.{sets, drop-drop}
use borrow.Rule.Slice.PartMut.{put_mid}
use Rattle.std.proofs.lemmas.List.{replicate-append-replicate}
use Rattle.std.proofs.lemmas.List.Edits.{sets-eq}
use Rattle.entries.specs.Entry.{none, joined, in_limits, entry_words}
use Rattle.entries.specs.Words.{entry_at, put_entry}
use Rattle.entries.specs.declared.entry.Entry.{Entry}
use Rattle.entries.proofs.WordLaws.{sets_append, put_sets}
use Rattle.tree.specs.Build.{cleared, raised, Raises}

-- zeros stored one entry after another are those of one `fill`
cleared_zeros : (e n : ℕ) (b : List ℕ) → cleared e n b ≡ sets b (e * entry_words) (replicate (n * entry_words) 0)
unfolding cleared
cleared_zeros e zero b = refl
cleared_zeros e (suc n) b =
    let size : length {A = ℕ} (replicate (n * entry_words) 0) ≡ n * entry_words = length-replicate {A = ℕ} (n * entry_words) 0 in
    let more : n * entry_words + entry_words ≡ suc n * entry_words = omega arith in
    let at : e * entry_words + length {A = ℕ} (replicate (n * entry_words) 0) ≡ (e + n) * entry_words = omega (arith, size) in
    put_sets (cleared e n b) (e + n) none
    ∙ ap₂ (λ (l : List ℕ) (i : ℕ). sets l i (replicate entry_words 0)) (cleared_zeros e n b) (sym at)
    ∙ sym (sets_append (replicate (n * entry_words) 0) (replicate entry_words 0) b (e * entry_words))
    ∙ ap (sets b (e * entry_words)) (replicate-append-replicate (n * entry_words) entry_words 0 ∙ ap (λ (m : ℕ). replicate m 0) more)

pub filled_zeros : (e n : ℕ) (b : List ℕ) (i m : ℕ) (zs : List ℕ) → i ≡ e * entry_words → m ≡ n * entry_words → zs ≡ replicate m 0 → i + m ≤ length b → put_mid i m b zs ≡ cleared e n b
filled_zeros e n b i m zs ei em is room =
    let size : length {A = ℕ} (replicate (n * entry_words) 0) ≡ n * entry_words = length-replicate {A = ℕ} (n * entry_words) 0 in
    let room' : e * entry_words + length {A = ℕ} (replicate (n * entry_words) 0) ≤ length b = omega (arith, size) in
    rw (is, ei, em)
    (ap (λ (l : List ℕ). take (e * entry_words) b ++ (replicate (n * entry_words) 0 ++ l)) (drop-drop (n * entry_words) (e * entry_words) b)
    ∙ sym (append_assoc (take (e * entry_words) b) (replicate (n * entry_words) 0) (drop (e * entry_words + n * entry_words) b))
    ∙ ap (λ (k : ℕ). (take (e * entry_words) b ++ replicate (n * entry_words) 0) ++ drop (e * entry_words + k) b) (sym size)
    ∙ sym (sets-eq (replicate (n * entry_words) 0) b (e * entry_words) room')
    ∙ sym (cleared_zeros e n b))

-- what is known of entry e once its halves v and w are read
abbrev pub Next : List ℕ → Entry → Entry → ℕ → Type 0
Next b v w e =
    (in_limits v ≡ true)
    × (in_limits w ≡ true)
    × Raises (e - 1) (put_entry b e (joined v w))
    × (raised (e - 1) (put_entry b e (joined v w)) ≡ raised e b)

pub raise_next : (b : List ℕ) (v w : Entry) (e : ℕ) → 0 < e → v ≡ entry_at b (e * 2) → w ≡ entry_at b (e * 2 + 1) → Raises e b → Next b v w e
unfolding Raises raised
raise_next b v w zero h is-v is-w r = absurd (not-suc-le-zero h)
raise_next b v w (suc e) h is-v is-w r = rw (sub-one, is-v, is-w) (r.0, r.1, r.2, refl)

pub raised_end : (e : ℕ) (b : List ℕ) → e ≤ 0 → raised e b ≡ b
unfolding raised
raised_end zero b h = refl
raised_end (suc e) b h = absurd (not-suc-le-zero h)
