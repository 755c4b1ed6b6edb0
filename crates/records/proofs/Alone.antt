-- What the reader of one kind gives is what the definition finds, taken as that kind: neither tells more than the record that both are kept as.
use mathlib.Core.Path.{◌≡◌, sym, ap, ◌∙◌}
use Prim.Native.Nat.{ℕ}
use Rattle.rules.specs.Refusals.{Checked, good, refused, ◌>>=◌}
use Rattle.rules.specs.declared.refusal.Rule.{Rule}
use Rattle.rules.proofs.Laws.{never}
use Rattle.records.specs.Records.{Content, FoundRecord, content_view, record_read}
use Rattle.records.specs.declared.record.Record.{Record}

module _ {A : Type 0} (read : Checked A → Checked (Record × ℕ)) (put : A → Record × ℕ) (take : Content → Checked A)
    (at_good : (a : A) → read (good a) ≡ good (put a)) (at_refused : (n : Rule) → read (refused n) ≡ refused n)
    (back : (x : Content) (a : A) → (put a).0 ≡ content_view x → good a ≡ take x) where
  pub alone : (x : FoundRecord) (t : Checked A) → read t ≡ record_read x → t ≡ (x >>= (λ f. take f.0))
  unfolding ◌>>=◌
  alone (refused n) (refused m) e = let z = sym (at_refused m) ∙ e in cc
  alone (refused n) (good a) e = let z = sym (at_good a) ∙ e in never (cc)
  alone (good f) (refused m) e = let z = sym (at_refused m) ∙ e in never (cc)
  alone (good f) (good a) e =
      let z = sym (at_good a) ∙ e in
      let both : put a ≡ (content_view f.0, f.1) = cc in
      back f.0 a (ap (λ (r : Record × ℕ). r.0) both)
