-- Sums of vectors: their order, and their ceilings; vectors with one number that counts.
use mathlib.Core.Path.{◌≡◌, refl, ap}
use mathlib.Core.Logic.{inl, inr}
use mathlib.Core.Bool.{true, and-true}
use mathlib.Core.List.{List, [], ◌∷◌, ◌++◌}
use Prim.Native.Nat.{ℕ, zero, suc, ◌+◌, ◌<◌}
use native.Mathlib.Omega.{arith}
use lib.Dec.{ltb}
use lib.ListN.{length, get_or, take, replicate, length-replicate}
use lib.Seq.{get_or_at}
use borrow.Author.Tests.{ltb-true, lt-ltb}
use Rattle.model.specs.Vectors.{added}
use Rattle.model.specs.Core.{under}
use Rattle.model.proofs.Bits.{and_left, and_right, and_both}
use Rattle.model.proofs.Vectors.{AtMost, Earlier}

pub added_length : (xs bs : List ℕ) → length xs ≡ length bs → length (added xs bs) ≡ length xs
unfolding added
added_length [] bs e = refl
added_length (a ∷ xs) [] e = absurd (omega arith)
added_length (a ∷ xs) (b ∷ bs) e = ap suc (added_length xs bs (omega arith))

-- number by number, of two vectors in a row, and the first p
pub added_at : (xs bs : List ℕ) → length xs ≡ length bs → (j : ℕ)
    → get_or (added xs bs) j 0 ≡ get_or xs j 0 + get_or bs j 0
unfolding added
added_at [] [] e j = refl
added_at [] (b ∷ bs) e j = absurd (omega arith)
added_at (a ∷ xs) [] e j = absurd (omega arith)
added_at (a ∷ xs) (b ∷ bs) e zero = refl
added_at (a ∷ xs) (b ∷ bs) e (suc j) = added_at xs bs (omega arith) j

pub added_append : (xs bs cs ds : List ℕ) → length xs ≡ length bs
    → added (xs ++ cs) (bs ++ ds) ≡ added xs bs ++ added cs ds
unfolding added
added_append [] [] cs ds e = refl
added_append [] (b ∷ bs) cs ds e = absurd (omega arith)
added_append (a ∷ xs) [] cs ds e = absurd (omega arith)
added_append (a ∷ xs) (b ∷ bs) cs ds e = ap (◌∷◌ (a + b)) (added_append xs bs cs ds (omega arith))

pub take_added : (p : ℕ) (xs bs : List ℕ) → take p (added xs bs) ≡ added (take p xs) (take p bs)
unfolding added
take_added zero xs bs = refl
take_added (suc p) [] bs = refl
take_added (suc p) (a ∷ xs) [] = refl
take_added (suc p) (a ∷ xs) (b ∷ bs) = ap (◌∷◌ (a + b)) (take_added p xs bs)

-- a part of a sum is at most the sum
pub added_left : (xs bs : List ℕ) → AtMost xs (added xs bs)
unfolding added
added_left [] bs = tt
added_left (a ∷ xs) [] = tt
added_left (a ∷ xs) (b ∷ bs) = (omega arith, added_left xs bs)

pub added_right : (xs bs : List ℕ) → AtMost bs (added xs bs)
unfolding added
added_right [] [] = tt
added_right [] (b ∷ bs) = tt
added_right (a ∷ xs) [] = tt
added_right (a ∷ xs) (b ∷ bs) = (omega arith, added_right xs bs)

pub added_mono : (xs bs cs ds : List ℕ) → AtMost xs cs → AtMost bs ds → AtMost (added xs bs) (added cs ds)
unfolding added
added_mono [] bs cs ds h k = tt
added_mono (a ∷ xs) [] cs ds h k = tt
added_mono (a ∷ xs) (b ∷ bs) [] ds h k = tt
added_mono (a ∷ xs) (b ∷ bs) (c ∷ cs) [] h k = tt
added_mono (a ∷ xs) (b ∷ bs) (c ∷ cs) (d ∷ ds) h k = (omega arith, added_mono xs bs cs ds h.1 k.1)

-- equal sums of parts that are at most as large have equal parts
pub added_tie : (n : ℕ) (xs bs cs ds : List ℕ) → length xs ≡ n → length bs ≡ n → length cs ≡ n → length ds ≡ n
    → AtMost xs cs → AtMost bs ds → added xs bs ≡ added cs ds → (xs ≡ cs) × (bs ≡ ds)
unfolding added
added_tie n [] [] [] [] u v w x h k e = (refl, refl)
added_tie n [] [] [] (d ∷ ds) u v w x h k e = absurd (omega arith)
added_tie n [] [] (c ∷ cs) ds u v w x h k e = absurd (omega arith)
added_tie n [] (b ∷ bs) cs ds u v w x h k e = absurd (omega arith)
added_tie n (a ∷ xs) [] cs ds u v w x h k e = absurd (omega arith)
added_tie n (a ∷ xs) (b ∷ bs) [] ds u v w x h k e = absurd (omega arith)
added_tie n (a ∷ xs) (b ∷ bs) (c ∷ cs) [] u v w x h k e = absurd (omega arith)
added_tie zero (a ∷ xs) (b ∷ bs) (c ∷ cs) (d ∷ ds) u v w x h k e = absurd (omega arith)
added_tie (suc n) (a ∷ xs) (b ∷ bs) (c ∷ cs) (d ∷ ds) u v w x h k e =
    let heads : a + b ≡ c + d = cc in
    let tails : added xs bs ≡ added cs ds = cc in
    let p : a ≡ c = omega arith in
    let q : b ≡ d = omega arith in
    let (r, s) = added_tie n xs bs cs ds (omega arith) (omega arith) (omega arith) (omega arith) h.1 k.1 tails in
    (cc, cc)

-- what is under the ceilings is below each of them
pub under_at : (xs cs : List ℕ) (i : ℕ) → i < length xs → i < length cs → under xs cs ≡ true
    → get_or xs i 0 < get_or cs i 0
unfolding under
under_at [] cs i l m u = absurd (omega arith)
under_at (x ∷ xs) [] i l m u = absurd (omega arith)
under_at (x ∷ xs) (c ∷ cs) zero l m u = ltb-true x c (and_left (ltb x c) (under xs cs) u)
under_at (x ∷ xs) (c ∷ cs) (suc i) l m u =
    under_at xs cs i (omega arith) (omega arith) (and_right (ltb x c) (under xs cs) u)

-- what is at most as large is under the same ceilings
pub under_mono : (xs bs cs : List ℕ) → length xs ≡ length bs → AtMost xs bs → under bs cs ≡ true → under xs cs ≡ true
unfolding under
under_mono [] bs cs e h u = refl
under_mono (a ∷ xs) [] cs e h u = absurd (omega arith)
under_mono (a ∷ xs) (b ∷ bs) [] e h u = refl
under_mono (a ∷ xs) (b ∷ bs) (c ∷ cs) e h u =
    and_both (lt-ltb a c (omega (arith, ltb-true b c (and_left (ltb b c) (under bs cs) u))))
    (under_mono xs bs cs (omega arith) h.1 (and_right (ltb b c) (under bs cs) u))

-- vectors that are 0 but for their last number compare by it
pub last_at : (o a : ℕ) → get_or (replicate o 0 ++ (a ∷ [])) o 0 ≡ a
last_at o a = get_or_at (replicate o 0) a [] 0 o (length-replicate o 0)

pub under_last : (o a c : ℕ) → under (replicate o 0 ++ (a ∷ [])) (replicate o 1 ++ (c ∷ [])) ≡ ltb a c
unfolding under
under_last zero a c = and-true (ltb a c)
under_last (suc o) a c = under_last o a c

pub earlier_last : (o a b : ℕ) → Earlier (replicate o 0 ++ (a ∷ [])) (replicate o 0 ++ (b ∷ [])) → a < b
earlier_last zero a b (inl l) = l
earlier_last zero a b (inr l) = absurd l.1
earlier_last (suc o) a b (inl l) = absurd (omega arith)
earlier_last (suc o) a b (inr l) = earlier_last o a b l.1
