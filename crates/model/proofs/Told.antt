-- Which numbers the calls give, and with which places: the reader's verdict first, then what a call refuses by itself.
use mathlib.Core.Path.{◌≡◌, refl}
use mathlib.Core.Bool.{Bool, true, false}
use mathlib.Core.List.Memᴰ.{head as here}
use mathlib.Core.List.Memᴰ.{tail as there}
use mathlib.Core.List.{List, [], ◌∷◌, Memᴰ as In}
use Prim.Native.Nat.{ℕ}
use native.Mathlib.Omega.{arith}
use lib.Dec.{eqb, ltb}
use lib.ListN.{length}
use borrow.Author.Tests.{eqb-false, eq-eqb, ne_eqb}
use Rattle.model.specs.Basics.{pick}
use Rattle.model.specs.Limits.{work_need}
use Rattle.model.specs.Refusals.{work_short, linked, full}
use Rattle.model.specs.Refusals.{Verdict, verdict, accepted, first}
use Rattle.model.specs.Problems.{Table}
use Rattle.model.specs.Reading.{verdict_of}
use Rattle.model.specs.Frontiers.{Point}
use Rattle.model.specs.Cuts.{crosses, linked_verdict}
use Rattle.model.specs.Calls.{work_verdict, room_verdict}
use Rattle.model.specs.Demands.{has_place, Told}
use Rattle.model.proofs.Bits.{true_false}
use Rattle.model.proofs.Verdicts.{first_has}
use Rattle.model.proofs.Places.{refused_number, refused_nowhere}

abbrev Nowhere : Verdict → Type 0
Nowhere v = has_place v.number ≡ false → v.place ≡ 0

-- number 14 is told at one of some places
abbrev pub Linked : List ℕ → Verdict → Type 0
Linked places v = v.number ≡ linked → In v.place places

-- a call's own verdicts: 0 or a number of the list, the place 0 where the number has none, and a record's place with 14
pub record Own (own places : List ℕ) (v : Verdict) : Type 0 where
  pub among : In v.number (0 ∷ own)
  pub nowhere : Nowhere v
  pub at_record : Linked places v

module _ (own places : List ℕ) where
  pub own_first : (a b : Verdict) → Own own places a → Own own places b → Own own places (first a b)
  own_first a b h k = first_has (Own own places) a b h (λ e. k)

  pub own_accepted : Own own places accepted
  own_accepted =
      record { among = here refl; nowhere = λ h. refl; at_record = λ h. absurd (eqb-false 0 linked refl h) }

  -- by a test that tells another number than 14
  pub own_test : (n : ℕ) → In n own → eqb n linked ≡ false → (t : Bool) → Own own places (pick t (verdict n 0) accepted)
  own_test n m e true =
      record { among = there m; nowhere = λ h. refl; at_record = λ h. absurd (eqb-false n linked e h) }
  own_test n m e false = own_accepted

  pub own_work : In work_short own → (work : List ℕ) → Own own places (work_verdict work)
  unfolding work_verdict
  own_work m work = own_test work_short m refl (ltb (length work) work_need)

  pub own_room : In full own → (room : ℕ) (ps : List Point) → Own own places (room_verdict room ps)
  unfolding room_verdict
  own_room m room ps = own_test full m refl (ltb room (length ps))

  pub own_refuses : (n : ℕ) → In n own → eqb n linked ≡ false → (t : Bool)
      → Own own places (pick t accepted (verdict n 0))
  own_refuses n m e true = own_accepted
  own_refuses n m e false = own_test n m e true

-- number 14 has the place of one of the records
pub own_linked : (own : List ℕ) → In linked own → (sides : List ℕ) (ts : List Table) (places : List ℕ)
    → length ts ≡ length places → Own own places (linked_verdict sides ts places)
unfolding linked_verdict has_place
own_linked own m sides [] places e = own_accepted own places
own_linked own m sides (t ∷ ts) [] e = absurd (omega (arith, e))
own_linked own m sides (t ∷ ts) (at ∷ places) e =
    go (crosses sides t) (own_linked own m sides ts places (omega (arith, e)))
  where
    rest : Verdict
    rest = linked_verdict sides ts places

    go : (b : Bool) → Own own places rest → Own own (at ∷ places) (pick b (verdict linked at) rest)
    go true k = record { among = there m; nowhere = λ h. absurd (true_false refl h); at_record = λ h. here refl }
    go false k = record { among = k.among; nowhere = k.nowhere; at_record = λ h. there (k.at_record h) }

-- the reader's verdict, and after it the call's own
module _ (s own places : List ℕ) (v : Verdict) (h : Own own places v) where
  pub told : Told s own (first (verdict_of s) v)
  told = record {
    reader = λ k. rw (ne_eqb (verdict_of s).number 0 (λ e. omega (arith, e, k))) refl;
    later = λ e. rw (eq-eqb _ _ e) h.among;
    nowhere = first_has Nowhere (verdict_of s) v (refused_nowhere s) (λ e. h.nowhere);
  }

  pub told_at_record : Linked places (first (verdict_of s) v)
  told_at_record =
      first_has (Linked places) (verdict_of s) v (λ k. absurd (omega (arith, k, refused_number s))) (λ e. h.at_record)
