-- A climb keeps what is off its way, on any words: it stores only at the entry that it starts from and at those above.
use Prim.Native.Nat.{ℕ, zero, suc, ◌+◌, ◌*◌, ◌/◌, ◌≤◌}
use mathlib.Core.Path.{◌≡◌, refl, ◌∙◌, subst}
use mathlib.Core.List.{List}
use native.Mathlib.Omega.{arith}
use lib.ListN.{length, drop}
use Rattle.entries.specs.Entry.{entry_words}
use Rattle.rules.specs.Refusals.{Checked, good, refused, ◌>>=◌}
use Rattle.rules.proofs.Laws.{never}
use Rattle.entries.specs.Words.{entry_at, put_entry}
use Rattle.entries.specs.declared.entry.Entry.{Entry}
use Rattle.entries.proofs.WordLaws.{put_other, put_length, put_drop}
use Rattle.tree.specs.Put.{beside_of, above_of, climbed}
use Rattle.tree.proofs.Covers.{Off}

-- a climb of n levels from e that leaves b' of b
pub record Kept (n e : ℕ) (b b' : List ℕ) : Type 0 where
  pub size : length b' ≡ length b
  pub others : (x : ℕ) → Off n x e → entry_at b' x ≡ entry_at b x
  pub behind : (k : ℕ) → e * entry_words + entry_words ≤ k → drop k b' ≡ drop k b

pub stored : (e : ℕ) (v : Entry) (b b' : List ℕ) → put_entry b e v ≡ b' → Kept 0 e b b'
stored e v b b' q = subst (Kept 0 e b) q (record {
  size = put_length b e v;
  others = λ x ne. put_other b e x v ne;
  behind = λ k h. put_drop b e v k h;
})

pub stored_more : (n e : ℕ) (v : Entry) (b c b' : List ℕ) → Kept n (e / 2) b c → put_entry c e v ≡ b' → Kept (suc n) e b b'
stored_more n e v b c b' k q = subst (Kept (suc n) e b) q (record {
  size = put_length c e v ∙ k.size;
  others = λ x off. put_other c e x v off.0 ∙ k.others x off.1;
  behind = λ m h. put_drop c e v m h ∙ k.behind m (omega arith);
})

pub climb_keeps : (n : ℕ) (b : List ℕ) (e : ℕ) (v : Entry) (b' : List ℕ) → climbed n b e v ≡ good b' → Kept n e b b'
unfolding climbed ◌>>=◌
climb_keeps zero b e v b' h = stored e v b b' (cc)
climb_keeps (suc n) b e v b' h = go (λ u c. climb_keeps n b (e / 2) u c) (above_of e v (entry_at b (beside_of e))) h
  where
    on : (u : Entry) → ((c : List ℕ) → climbed n b (e / 2) u ≡ good c → Kept n (e / 2) b c)
        → (y : Checked (List ℕ)) → climbed n b (e / 2) u ≡ y → (y >>= (λ c. good (put_entry c e v))) ≡ good b' → Kept (suc n) e b b'
    on u ih (refused k) q h = never (cc)
    on u ih (good c) q h = stored_more n e v b c b' (ih c q) (cc)

    go : ((u : Entry) (c : List ℕ) → climbed n b (e / 2) u ≡ good c → Kept n (e / 2) b c)
        → (y : Checked Entry) → (y >>= (λ u. climbed n b (e / 2) u >>= (λ c. good (put_entry c e v)))) ≡ good b' → Kept (suc n) e b b'
    go ih (refused k) h = never (cc)
    go ih (good u) h = on u (ih u) (climbed n b (e / 2) u) refl h
