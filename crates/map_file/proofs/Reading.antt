-- The files that the definition reads one after the other, record by record: reading on from each of them gives the whole file.
use Rattle.rules.specs.declared.refusal.Rule.{Rule}
use mathlib.Core.Path.{◌≡◌, refl, sym, ap, ◌∙◌, subst}
use mathlib.Core.Bool.{Bool, true, false}
use mathlib.Core.List.{List, [], ◌∷◌, ◌++◌}
use Prim.Native.Nat.{ℕ, zero, suc, ◌+◌, ◌-◌, ◌≤◌, ◌<◌}
use native.Mathlib.Nat.{add-zero}
use native.Mathlib.Omega.{arith}
use lib.ListN.{length, take, drop, length-append, length-drop, take-append-drop}
use lib.Seq.{drop-append-le, length-take-le}
use borrow.Author.Tests.{lt-ltb, le-ltb}
use Rattle.std.specs.Prelude.{is_none}
use Rattle.rules.specs.Refusals.{good, refused, pick, MARK}
use Rattle.records.specs.Objects.{Object, bonus, kind_bonus}
use Rattle.records.specs.Records.{Content, header, break, object, play, FoundRecord}
use Rattle.map_file.specs.Order.{place, record_of}
use Rattle.map_file.specs.File.{File, accepted, refused_at, counts_of, with_record, ended, file_from, nothing_read, file_of}
use Rattle.rules.proofs.All.{all_out}
use Rattle.map_file.proofs.Local.{record_in}
use Rattle.map_file.proofs.Ranks.{placed_some}
use Rattle.map_file.proofs.Room.{content_rank, record_ordered}
use Rattle.map_file.proofs.Sizes.{Sized, record_sized}
use Rattle.rules.proofs.Laws.{never}

-- ---- one more element at the end of a list
pub length_snoc : {A : Type 0} (l : List A) (x : A) → length (l ++ (x ∷ [])) ≡ length l + 1
length_snoc l x = length-append l (x ∷ [])

bonus-append : (os ps : List Object) → bonus (os ++ ps) ≡ bonus os + bonus ps
unfolding bonus
bonus-append [] ps = omega arith
bonus-append (o ∷ os) ps = let e = bonus-append os ps in omega (arith, e)

bonus_alone : (o : Object) → bonus (o ∷ []) ≡ kind_bonus o.kind
unfolding bonus
bonus_alone o = add-zero (kind_bonus o.kind)

pub bonus_snoc : (os : List Object) (o : Object) → bonus (os ++ (o ∷ [])) ≡ bonus os + kind_bonus o.kind
bonus_snoc os o = bonus-append os (o ∷ []) ∙ ap (λ (n : ℕ). bonus os + n) (bonus_alone o)

-- what the definition finds behind a file
abbrev pub found_at : List ℕ → File → FoundRecord
found_at s f = record_of (drop f.at s) (counts_of f)

-- one step of the definition
from_good : (k : ℕ) (s : List ℕ) (f : File) (r : Content × ℕ) → f.at < length s → found_at s f ≡ good r → file_from (suc k) s f ≡ file_from k s (with_record f r)
unfolding file_from
from_good k s f r h e = simp (lt-ltb _ _ h, e)

from_refused : (k : ℕ) (s : List ℕ) (f : File) (n : Rule) → f.at < length s → found_at s f ≡ refused n → file_from (suc k) s f ≡ refused_at n f.at f
unfolding file_from
from_refused k s f n h e = simp (lt-ltb _ _ h, e)

from_end : (k : ℕ) (s : List ℕ) (f : File) → length s ≤ f.at → file_from (suc k) s f ≡ ended f
unfolding file_from
from_end k s f h = simp (le-ltb _ _ h)

pub with_at : (f : File) (r : Content × ℕ) → (with_record f r).at ≡ f.at + r.1
unfolding with_record
with_at f (header s, n) = refl
with_at f (break b, n) = refl
with_at f (object o, n) = refl
with_at f (play p, n) = refl

-- ---- f is what was read so far of the file s
pub record On (s : List ℕ) (f : File) : Type 0 where
  pub fuel : ℕ
  pub enough : length s - f.at < fuel
  pub rest : file_from fuel s f ≡ file_of s

pub on_start : (s : List ℕ) → On s nothing_read
unfolding file_of
on_start s = record { fuel = suc (length s); enough = omega arith; rest = refl }

pub found_sized : (s : List ℕ) (f : File) (r : Content × ℕ) → found_at s f ≡ good r → Sized (drop f.at s) r
found_sized s f r e = all_out (rw e at (record_sized (drop f.at s) (counts_of f)))

pub on_step : (s : List ℕ) (f : File) (r : Content × ℕ) → On s f → f.at < length s → found_at s f ≡ good r → On s (with_record f r)
on_step s f r on h e = go on.fuel refl
  where
    go : (fuel : ℕ) → on.fuel ≡ fuel → On s (with_record f r)
    go zero p = never (omega (arith, on.enough, p))
    go (suc fuel) p =
        let sized = found_sized s f r e in
        let past = with_at f r in
        record {
          fuel = fuel;
          enough = omega (arith, on.enough, p, past, sized.0, h);
          rest = sym (from_good fuel s f r h e) ∙ ap (λ (m : ℕ). file_from m s f) (sym p) ∙ on.rest;
        }

pub on_stop : (s : List ℕ) (f : File) (n : Rule) → On s f → f.at < length s → found_at s f ≡ refused n → file_of s ≡ refused_at n f.at f
on_stop s f n on h e = go on.fuel refl
  where
    go : (fuel : ℕ) → on.fuel ≡ fuel → file_of s ≡ refused_at n f.at f
    go zero p = never (omega (arith, on.enough, p))
    go (suc fuel) p = sym on.rest ∙ ap (λ (j : ℕ). file_from j s f) p ∙ from_refused fuel s f n h e

pub on_end : (s : List ℕ) (f : File) → On s f → length s ≤ f.at → file_of s ≡ ended f
on_end s f on h = go on.fuel refl
  where
    go : (fuel : ℕ) → on.fuel ≡ fuel → file_of s ≡ ended f
    go zero p = never (omega (arith, on.enough, p))
    go (suc fuel) p = sym on.rest ∙ ap (λ (j : ℕ). file_from j s f) p ∙ from_end fuel s f h

-- the file that is accepted at the end of the input is the one read
pub ended_is : (f g : File) → ended f ≡ accepted g → f ≡ g
ended_is f g e = go (is_none f.last) e
  where
    go : (b : Bool) → pick b (refused_at MARK 0 f) (accepted f) ≡ accepted g → f ≡ g
    go true e = never (cc)
    go false e = cc

-- ---- the files that are read one after the other, record by record
pub data Chain (s : List ℕ) : File → Type 0 where
  start : Chain s nothing_read
  longer : {f : File} {r : Content × ℕ} → Chain s f → f.at < length s → found_at s f ≡ good r → Chain s (with_record f r)

pub chain_on : (s : List ℕ) (f : File) → Chain s f → On s f
chain_on s f start = on_start s
chain_on s f (longer {f = g} {r = r} c h e) = on_step s g r (chain_on s g c) h e

-- a part of a file that ends with a record is read as the whole is
pub chain_in : (p t : List ℕ) (f : File) → Chain (p ++ t) f → f.at ≤ length p → Chain p f
chain_in p t f start h = start
chain_in p t f (longer {f = g} {r = r} c b e) h =
    let past = with_at g r in
    let sized = found_sized (p ++ t) g r e in
    let here : g.at < length p = omega (arith, past, h, sized.0) in
    let rest : drop g.at (p ++ t) ≡ drop g.at p ++ t = drop-append-le g.at p t (omega (arith, here)) in
    let room = length-drop g.at p in
    let found : record_of (drop g.at p ++ t) (counts_of g) ≡ good r = ap (λ (l : List ℕ). record_of l (counts_of g)) (sym rest) ∙ e in
    longer (chain_in p t g c (omega (arith, here))) here (record_in (drop g.at p) t (counts_of g) r found sized.0 (omega (arith, past, h, room)))

pub part-file : (p t : List ℕ) (f : File) → Chain (p ++ t) f → f.at ≡ length p → file_of p ≡ ended f
part-file p t f c e = on_end p f (chain_on p f (chain_in p t f c (omega (arith, e)))) (omega (arith, e))

-- it lies within the file
pub chain_inside : (s : List ℕ) (f : File) → Chain s f → f.at ≤ length s
chain_inside s f start = omega arith
chain_inside s f (longer {f = g} {r = r} c h e) =
    let past = with_at g r in
    let sized = found_sized s g r e in
    let room = length-drop g.at s in
    omega (arith, past, sized.1, room, h)

-- so what was read so far is the file of its own bytes, from the header on
pub chain_file : (s : List ℕ) (f : File) → Chain s f → 0 < place f.last → file_of (take f.at s) ≡ accepted f
chain_file s f c h =
    let whole : take f.at s ++ drop f.at s ≡ s = take-append-drop f.at s in
    let size : f.at ≡ length (take f.at s) = sym (length-take-le f.at s (chain_inside s f c)) in
    part-file (take f.at s) (drop f.at s) f (subst (λ (l : List ℕ). Chain l f) (sym whole) c) size ∙ simp (placed_some f.last h)

-- the place of a record in the order is that of its content, and no earlier than the last one's
pub with_last : (f : File) (r : Content × ℕ) → (with_record f r).last ≡ content_rank r.0
unfolding with_record
with_last f (header s, n) = refl
with_last f (break b, n) = refl
with_last f (object o, n) = refl
with_last f (play p, n) = refl

pub found_ordered : (s : List ℕ) (f : File) (r : Content × ℕ) → found_at s f ≡ good r → place f.last ≤ place (content_rank r.0)
unfolding counts_of
found_ordered s f r e = all_out (rw e at (record_ordered (drop f.at s) (counts_of f)))

-- plays come last
pub chain_plays : (s : List ℕ) (f : File) → Chain s f → place f.last ≤ 3 → f.plays ≡ []
unfolding with_record
chain_plays s f start h = refl
chain_plays s f (longer {f = g} {r = (header t, n)} c b e) h = chain_plays s g c (omega (arith, found_ordered s g (header t, n) e))
chain_plays s f (longer {f = g} {r = (break x, n)} c b e) h = chain_plays s g c (omega (arith, found_ordered s g (break x, n) e))
chain_plays s f (longer {f = g} {r = (object o, n)} c b e) h = chain_plays s g c (omega (arith, found_ordered s g (object o, n) e))
chain_plays s f (longer {f = g} {r = (play p, n)} c b e) h = never (omega (arith, h))
