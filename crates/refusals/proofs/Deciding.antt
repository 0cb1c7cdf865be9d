-- What `first_given` gives is given by the first condition that holds.
use Rattle.std.proofs.Common.{◌≡◌, ℕ, zero, suc, Bool, true, false, cond, List, [], ◌∷◌, length, Some, None, Option, refl, subst, le_of_suc-le-suc, arith}
use Rattle.std.specs.List.{AllWithin}
use Rattle.refusals.specs.Conditions.{Condition, first_given, NoneHolds, FirstDecides}

module _ {X : Type 0} where
  -- a condition that fails, before others that fail
  one_more : (c : Condition X) (cs : List (Condition X)) (n : ℕ) → c.holds ≡ false → AllWithin (λ d. d.holds ≡ false) cs 0 n → AllWithin (λ d. d.holds ≡ false) (c ∷ cs) 0 (suc n)
  one_more c cs n fails every zero d low high = fails
  one_more c cs n fails every (suc k) d low high = every k d (omega arith) (le_of_suc-le-suc high)

  later : (c : Condition X) (cs : List (Condition X)) → c.holds ≡ false → (given : Option X) → FirstDecides cs given → FirstDecides (c ∷ cs) given
  later c cs fails None all = one_more c cs (length cs) fails all
  later c cs fails (Some x) first =
      record {
        place = suc first.place;
        within = omega (arith, first.within);
        decides = first.decides;
        none_before = one_more c cs first.place fails first.none_before;
      }

  -- a condition, before others of which the first that holds decides
  next : (c : Condition X) (cs : List (Condition X)) (b : Bool) → c.holds ≡ b → FirstDecides cs (first_given cs) → FirstDecides (c ∷ cs) (cond b (Some c.answer) (first_given cs))
  next c cs true holds rest = record { place = 0; within = omega arith; decides = λ _. (holds, refl); none_before = λ k d low high. absurd (omega arith) }
  next c cs false fails rest = later c cs fails (first_given cs) rest

  pub first_decides : (cs : List (Condition X)) → FirstDecides cs (first_given cs)
  first_decides [] = λ k d low high. absurd (omega arith)
  first_decides (c ∷ cs) = next c cs c.holds refl (first_decides cs)

  pub none_holds : (cs : List (Condition X)) → first_given cs ≡ None → NoneHolds cs
  none_holds cs none = subst (FirstDecides cs) none (first_decides cs)
