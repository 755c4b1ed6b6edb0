-- The record of an object alone, read by its mark: a mark of no object is refused as the definition refuses its number.
use Prim.Native.Nat.{ℕ}
use mathlib.Core.Path.{◌≡◌, refl, ◌∙◌}
use mathlib.Core.Bool.{Bool, true, false}
use mathlib.Core.List.{List}
use lib.Dec.{eqb, ltb}
use lib.ListN.{length}
use Rattle.numbers.specs.Words.{word_at}
use Rattle.rules.specs.Refusals.{Checked, good, refused, ◌>>=◌, ◌>>◌, refuse◌when◌, pick, CUT, MARK}
use Rattle.records.specs.Fields.{cut}
use Rattle.records.specs.Marks.{MH, BR, CI, SL, SP, PL, mark_of, mark_in, word_of}
use Rattle.records.specs.Objects.{Object, object_view}
use Rattle.records.specs.Records.{Content, header, break, object, play, FoundRecord, circle_of, slider_of, spinner_of, object_of, record_read}
use Rattle.records.specs.declared.hit_object.HitObject.{HitObject}
use Rattle.records.specs.declared.mark.Mark.{Mark}
use Rattle.records.specs.declared.mark.Mark.TheVariants as mark
use Rattle.records.specs.declared.record.Record.{Record}
use Rattle.records.specs.declared.record.Record.TheVariants as record_case
use Rattle.board.specs.Edit.{object_only, object_in, alone_of}

-- a record of no object is refused
abbrev pub kept : Record → Checked HitObject
kept (record_case.Header s) = refused MARK
kept (record_case.Break b) = refused MARK
kept (record_case.Object h) = good h
kept (record_case.Play p) = refused MARK

-- the steps behind the record, as the code keeps it
abbrev pub behind : List ℕ → Checked (Record × ℕ) → Checked HitObject
behind r x = do
  found ← x
  h ← kept found.0
  refuse MARK when ltb found.1 (length r)
  good h

module _ (r : List ℕ) where
  -- and as the definition takes them
  abbrev alone : FoundRecord → Checked Object
  alone x = x >>= (λ found. (object_only found.0 >>= (λ o. ((refuse MARK when ltb found.1 (length r)) >> good o))))

  viewed : (x : FoundRecord) → (alone x >>= (λ o. good (object_view o))) ≡ behind r (record_read x)
  unfolding ◌>>=◌ ◌>>◌ refuse◌when◌
  viewed (refused n) = refl
  viewed (good (header s, m)) = refl
  viewed (good (break b, m)) = refl
  viewed (good (object o, m)) = go (ltb m (length r))
    where
      go : (b : Bool) → (((refuse MARK when b) >> good o) >>= (λ o. good (object_view o))) ≡ ((refuse MARK when b) >> good (object_view o))
      go true = refl
      go false = refl
  viewed (good (play p, m)) = refl

  marked : (w : ℕ) → behind r (record_read (object_of r w)) ≡ (mark_of w >>= (λ m. behind r (record_read (object_of r (word_of m)))))
  unfolding ◌>>=◌ object_of
  marked w = go (eqb w CI) (eqb w SL) (eqb w SP) (eqb w MH) (eqb w BR) (eqb w PL)
    where
      mark_by : (c s p h b l : Bool) → Checked Mark
      mark_by c s p h b l = pick c (good mark.Circle) (pick s (good mark.Slider) (pick p (good mark.Spinner) (pick h (good mark.Header) (pick b (good mark.Break) (pick l (good mark.Play) (refused MARK))))))

      go : (c s p h b l : Bool) → behind r (record_read (pick c (circle_of r) (pick s (slider_of r) (pick p (spinner_of r) (refused MARK)))))
          ≡ (mark_by c s p h b l >>= (λ m. behind r (record_read (object_of r (word_of m)))))
      go true s p h b l = refl
      go false true p h b l = refl
      go false false true h b l = refl
      go false false false true b l = refl
      go false false false false true l = refl
      go false false false false false true = refl
      go false false false false false false = refl

  pub by_mark : alone_of (object_in r)
      ≡ ((refuse MARK when eqb (length r) 0) >> (mark_in r >>= (λ m. behind r (record_read (object_of r (word_of m))))))
  unfolding object_in mark_in ◌>>=◌ ◌>>◌ refuse◌when◌
  by_mark = go (eqb (length r) 0) (cut r 2)
    where
      go : (a c : Bool) → (((refuse MARK when a) >> ((refuse CUT when c) >> alone (object_of r (word_at r 0 2)))) >>= (λ o. good (object_view o)))
          ≡ ((refuse MARK when a) >> (((refuse CUT when c) >> mark_of (word_at r 0 2)) >>= (λ m. behind r (record_read (object_of r (word_of m))))))
      go true c = refl
      go false true = refl
      go false false = viewed (object_of r (word_at r 0 2)) ∙ marked (word_at r 0 2)
