-- The product of a number and a coefficient stays small.
use Rattle.std.proofs.Common.{ℕ, zero, suc, ◌*◌, ◌^◌, ◌<◌, ◌≤◌, ℤ, pos, negsuc, ◌*ℤ◌, neg_ℤ, ◌≤ℤ◌, sym, subst, arith, w8, SFits}
use lib.IntN.{pos-*ℤ-negsuc}
use lib.Signed.{mag}
use Rattle.std.proofs.lemmas.Nat.{mul-le}
use Rattle.std.proofs.lemmas.Int.{ints}

negated : (n : ℕ) → n ≤ 2 ^ 42 → mag (neg_ℤ (pos n)) ≤ 2 ^ 42
negated zero h = omega arith
negated (suc n) h = omega arith

pub small : (n : ℕ) (c : ℤ) → n < 2 ^ 35 → SFits w8 c → mag (pos n *ℤ c) ≤ 2 ^ 42
small n (pos k) h f = mul-le n k (2 ^ 35) (2 ^ 7) (omega arith) (omega (arith, f.sfits))
small n (negsuc k) h f =
    subst (λ z. mag z ≤ 2 ^ 42) (sym (pos-*ℤ-negsuc n k)) (negated (n * suc k) (mul-le n (suc k) (2 ^ 35) (2 ^ 7) (omega arith) (omega (arith, f.sfits))))

pub by_mag : (z : ℤ) (k : ℕ) → mag z ≤ k → (negsuc k ≤ℤ z) × (z ≤ℤ pos k)
by_mag (pos n) k h = omega (arith, ints)
by_mag (negsuc n) k h = omega (arith, ints)
