-- The steps from group to group lead to all groups: each has an inverse, modulo their number.
use Rattle.fx_lasting.proofs.{◌≡◌, ℕ, zero, suc, ◌+◌, ◌-◌, ◌*◌, ◌%◌, ◌<◌, ◌≤◌, List, [], ◌∷◌, get_or, Bool, true, false, cond, refl, sym, ap, ◌∙◌}
use Rattle.fx_lasting.proofs.{subst, arith, dite, ℕ_discrete, eqb, mod-eq_of_lt, le-mul_of_pos_right, suc-mul, LeadsToAll}
use Rattle.std.proofs.Math.Nat.{mod-lt, mul_comm, mul_assoc, add-mod-mod, mod-add-mod, add-mul-mod_self_left}
use Rattle.std.proofs.lemmas.Nat.{mul-mod_first, mul-mod_second}
use Rattle.std.proofs.lemmas.Bool.{eqb-true}

-- the inverse of a step, if one of the numbers below `few` is one
abbrev inverse_below : (step groups few : ℕ) → ℕ
inverse_below step groups zero = 0
inverse_below step groups (suc i) = cond (eqb ((step * i) % groups) (1 % groups)) i (inverse_below step groups i)

abbrev inverse : (step groups : ℕ) → ℕ
inverse step groups = inverse_below step groups groups

abbrev has_inverse : (step groups : ℕ) → Bool
has_inverse step groups = eqb ((step * inverse step groups) % groups) (1 % groups)

-- this holds of each number below `few`
abbrev each_below : (ℕ → Bool) → ℕ → Bool
each_below f zero = true
each_below f (suc n) = cond (f n) (each_below f n) false

both : (a b : Bool) → cond a b false ≡ true → (a ≡ true) × (b ≡ true)
both a b is = grind arith

of_each : (f : ℕ → Bool) (few : ℕ) → each_below f few ≡ true → (n : ℕ) → n < few → f n ≡ true
of_each f zero all n l = absurd (omega (arith, l))
of_each f (suc few) all n l = let z = both (f few) (each_below f few) all in
    dite (ℕ_discrete n few) (λ same. subst (λ (i : ℕ). f i ≡ true) (sym same) z.0) (λ other. of_each f few z.1 n (omega (arith, l, other)))

-- the steps of the passes
abbrev the_steps : List ℕ
the_steps = 67 ∷ 71 ∷ 73 ∷ 79 ∷ 83 ∷ 89 ∷ 97 ∷ 101 ∷ []

-- a step with an inverse leads to each group
module _ (step groups : ℕ) (some : 0 < groups) (has : has_inverse step groups ≡ true) where
  abbrev v : ℕ
  v = inverse step groups

  back : (v * step) % groups ≡ 1 % groups
  back = ap (λ (z : ℕ). z % groups) (mul_comm v step) ∙ eqb-true ((step * v) % groups) (1 % groups) has

  -- as many times the inverse as one lacks steps of 1
  gone : (d : ℕ) → ((d * v) % groups * (step % groups)) % groups ≡ d % groups
  gone d = mul-mod_second ((d * v) % groups) step groups ∙ (mul-mod_first (d * v) step groups ∙ (ap (λ (z : ℕ). z % groups) (mul_assoc d v step)
      ∙ (sym (mul-mod_second d (v * step) groups) ∙ (ap (λ (z : ℕ). (d * z) % groups) back ∙ (mul-mod_second d 1 groups
      ∙ ap (λ (z : ℕ). z % groups) (omega arith))))))

  leads : LeadsToAll groups (step % groups)
  leads first group its = let d : ℕ = group + (groups * first - first) in
      let more : first ≤ groups * first = subst (λ (z : ℕ). first ≤ z) (mul_comm first groups) (le-mul_of_pos_right first some) in
      let whole : first + d ≡ group + groups * first = omega (arith, more) in (
        (d * v) % groups,
        mod-lt (d * v) some,
        sym (add-mod-mod first ((d * v) % groups * (step % groups)) groups) ∙ (ap (λ (z : ℕ). (first + z) % groups) (gone d) ∙ (add-mod-mod first d groups
            ∙ (ap (λ (z : ℕ). z % groups) whole ∙ (add-mul-mod_self_left group groups first ∙ mod-eq_of_lt its)))),
      )

pub all_lead : (i groups : ℕ) → i < 8 → 0 < groups → groups ≤ 64 → LeadsToAll groups (get_or the_steps i 0 % groups)
all_lead i groups its some few = leads (get_or the_steps i 0) groups some
    (subst (λ (n : ℕ). has_inverse (get_or the_steps i 0) n ≡ true) (omega (arith, some))
    (of_each (λ n. has_inverse (get_or the_steps i 0) (n + 1)) 64 (of_each (λ i. each_below (λ n. has_inverse (get_or the_steps i 0) (n + 1)) 64) 8
    refl i its)
    (groups - 1) (omega (arith, some, few))))

-- one step more
pub walk_on : (first count step groups : ℕ) → ((first + count * step) % groups + step) % groups ≡ (first + (count + 1) * step) % groups
walk_on first count step groups = mod-add-mod (first + count * step) groups step ∙ ap (λ (z : ℕ). z % groups) (omega (arith, suc-mul count step))
