-- Places are inside, and apart.
use Rattle.fx_counted.proofs.Words.{◌≡◌, ℕ, ◌+◌, ◌-◌, ◌*◌, ◌<◌, ◌≤◌, Bool, cond, ap, arith, lt-ltb, le-ltb, node_place, mul-le-mul_right, home_place}
use Rattle.fx_counted.proofs.Words.{PlacesAreInside, PlacesAreApart}

module _ (size : ℕ) where
  pub high_node : (n : ℕ) → size ≤ n → node_place size n ≡ 16 + 8 * size + (n - 256)
  high_node n g = ap (λ (b : Bool). cond b (17 + 8 * n) (16 + 8 * size + (n - 256))) (le-ltb n size g)

  pub low_home : {n : ℕ} → n < size → home_place size n ≡ n
  low_home {n} l = ap (λ (b : Bool). cond b n (size + (n - 256))) (lt-ltb n size l)

  pub high_home : (n : ℕ) → size ≤ n → home_place size n ≡ size + (n - 256)
  high_home n g = ap (λ (b : Bool). cond b n (size + (n - 256))) (le-ltb n size g)

  module _ (numbers : ℕ) (few : size ≤ 256) where
    pub inside : PlacesAreInside size numbers
    inside = grind arith

    pub apart : PlacesAreApart size numbers
    apart = grind arith

-- chains that have few numbers each have few together
pub few_numbers : {numbers chains : ℕ} → numbers ≤ 64 → chains ≤ 1023 → numbers * chains ≤ 65472
few_numbers {chains} few count = let a = mul-le-mul_right chains few in omega (arith, a)
