-- Those of r numbers that pass a test, written one by one: behind the first i numbers, what stands from `to` to `end`
-- is what is kept of these.
use mathlib.Core.Path.{◌≡◌, sym, ap, ◌∙◌}
use mathlib.Core.Logic.{◌⊎◌, inl, inr, ⊎_elim}
use mathlib.Core.Bool.{Bool, true, false}
use mathlib.Core.List.{List, [], ◌∷◌, ◌++◌, append-nil}
use Prim.Native.Nat.{ℕ, ◌+◌, ◌≤◌, ◌<◌}
use native.Mathlib.Omega.{arith}
use native.Mathlib.Nat.{add-zero}
use lib.ListN.{length, get_or, take, drop, set, length-append, length-drop}
use lib.Seq.{length-take-le, get_or-take, get_or-drop, take_all}
use Rattle.model.specs.Basics.{All}
use Rattle.model.proofs.Elements.{all_below}
use Rattle.groups.proofs.Keeping.{Keeps, keeps_few, keeps_part, keeps_with, keeps_without}
use Rattle.groups.proofs.Overwritten.{over, over_none, over_length, over_behind, over_part, over_next}

-- the numbers
abbrev pub part : List ℕ → ℕ → ℕ → List ℕ
part was from r = take r (drop from was)

-- they stand at `from`; what is kept of them has room at `to`, apart from them
pub record Apart (of : List ℕ → List ℕ) (was : List ℕ) (r from to : ℕ) : Type 0 where
  pub inside : from + r ≤ length was
  pub room : to + length (of (part was from r)) ≤ length was
  pub apart : (from + r ≤ to) ⊎ (to + length (of (part was from r)) ≤ from)

-- there is room wherever there is room for all of them
pub all_apart : {test : ℕ → Bool} {of : List ℕ → List ℕ} → Keeps test of → (was : List ℕ) (r from to : ℕ)
    → from + r ≤ length was → to + r ≤ length was → (from + r ≤ to) ⊎ (to + r ≤ from) → Apart of was r from to
all_apart {of = of} k was r from to h l apart =
    let long : length (part was from r) ≡ r = length-take-le r (drop from was) (omega (arith, length-drop from was)) in
    let few : length (of (part was from r)) ≤ r = omega (arith, keeps_few k (part was from r)) in
    record {
      inside = h;
      room = omega arith;
      apart = ⊎_elim (λ (a : from + r ≤ to). inl a) (λ (a : to + r ≤ from). inr (omega arith)) apart;
    }

pub record Adding (test : ℕ → Bool) (of : List ℕ → List ℕ) (was : List ℕ) (r from to : ℕ) (work : List ℕ) (end i : ℕ)
    : Type 0 where
  pub keeps : Keeps test of
  pub parts : Apart of was r from to
  pub fewer : i ≤ r
  pub ends : end ≡ to + length (of (take i (part was from r)))
  pub holds : work ≡ over was to (of (take i (part was from r))) end

pub adding_start : {test : ℕ → Bool} {of : List ℕ → List ℕ} {was : List ℕ} {r from to : ℕ} → Keeps test of
    → Apart of was r from to → Adding test of was r from to was to 0
adding_start {was = was} {to = to} k p =
    record {
      keeps = k;
      parts = p;
      fewer = omega arith;
      ends = rw k.none (sym (add-zero to));
      holds = rw k.none (over_none was to);
    }

module _ {test : ℕ → Bool} {of : List ℕ → List ℕ} {was : List ℕ} {r from to : ℕ} {work : List ℕ} {end i : ℕ}
    (u : Adding test of was r from to work end i) where
  abbrev all : List ℕ
  all = part was from r

  abbrev kept : List ℕ
  kept = of (take i all)

  all_length : length all ≡ r
  all_length = length-take-le r (drop from was) (omega (arith, u.parts.inside, length-drop from was))

  adding_room : end ≤ to + length (of all)
  adding_room = omega (arith, u.ends, keeps_part u.keeps i all)

  inside : end ≤ length was
  inside = omega (arith, adding_room, u.parts.room)

  pub adding_length : length work ≡ length was
  adding_length = rw u.holds (over_length was to kept end u.ends inside)

  pub adding_end : r ≤ i → (end ≡ to + length (of (part was from r))) × (work ≡ over was to (of (part was from r)) end)
  adding_end h =
      let whole : take i all ≡ all = take_all i all (omega (arith, all_length)) in
      (rw whole at u.ends, rw whole at u.holds)

  -- the numbers are not written over
  same : part work from r ≡ all
  same =
      rw u.holds
      (⊎_elim
      (λ (h : from + r ≤ to). over_part was to kept end u.ends inside r from h)
      (λ (h : to + length (of all) ≤ from).
      ap (take r) (over_behind was to kept end u.ends inside from (omega (arith, adding_room))))
      u.parts.apart)

  module _ (more : i < r) where
    abbrev at : ℕ
    at = get_or work (from + i) 0

    place : at ≡ get_or all i 0
    place =
        sym (get_or-drop from work i 0)
        ∙ sym (get_or-take r (drop from work) i 0 more)
        ∙ ap (λ (l : List ℕ). get_or l i 0) same

    there : i < length all
    there = omega (arith, all_length)

    -- what all of them have, the next one has
    pub adding_has : (P : ℕ → Type 0) → All P (part was from r) → P at
    adding_has P h = rw place (all_below P all h i 0 there)

    pub adding_skip : test at ≡ false → Adding test of was r from to work end (i + 1)
    adding_skip e =
        let stays : of (take (i + 1) all) ≡ kept = keeps_without u.keeps i all there (rw place at e)
        ∙ append-nil kept in
        record {
          keeps = u.keeps;
          parts = u.parts;
          fewer = omega arith;
          ends = rw stays u.ends;
          holds = rw stays u.holds;
        }

    module _ (e : test at ≡ true) where
      grown : of (take (i + 1) all) ≡ kept ++ at ∷ []
      grown = rw place (keeps_with u.keeps i all there (rw place at e))

      pub adding_below : end < to + length (of (part was from r))
      adding_below =
          omega (arith, u.ends, keeps_part u.keeps (i + 1) all, ap length grown, length-append kept (at ∷ []))

      pub adding_next : Adding test of was r from to (set work end at) (end + 1) (i + 1)
      adding_next =
          record {
            keeps = u.keeps;
            parts = u.parts;
            fewer = omega arith;
            ends = rw grown (omega (arith, u.ends, length-append kept (at ∷ [])));
            holds =
                rw grown
                (ap (λ (l : List ℕ). set l end at) u.holds
                ∙ over_next was to kept end u.ends inside (omega (arith, adding_below, u.parts.room)) at);
          }
