-- Numbers that workers draw: the place, and a step more for each draw. Each but 0 is one file's.
use Rattle.fx_server.proofs.Words.{◌≡◌, ◌≢◌, ℕ, zero, suc, ◌+◌, ◌-◌, ◌*◌, ◌/◌, ◌^◌, ◌<◌, ◌≤◌, Bool, cond, refl, sym, ap, ◌∙◌, arith, nat_lt, suc-mul}
use Rattle.fx_server.proofs.Words.{lt-ltb, le-ltb, MOST_INSTALLING, number_after, after_draws, first_numbers, number_drawn, NumbersAreDrawnOnce}
use Rattle.fx_server.proofs.Words.{NumbersLast, FileNumbers, inl, inr, List, [], ◌∷◌, subst, part_of_pass, IsInstalled, Event, File}
use Rattle.fx_server.proofs.Words.{FilesHaveTheirOwnNumbers}
use Rattle.std.proofs.Math.Nat.{zero-mul}
use Rattle.std.proofs.lemmas.Nat.{div-mul-add}

-- a number that has 64 bits, or else 0
abbrev bounded : ℕ → ℕ
bounded n = cond (nat_lt n (2 ^ 64)) n 0

is_bounded : (n : ℕ) → n < 2 ^ 64 → bounded n ≡ n
is_bounded n l = ap (λ (b : Bool). cond b n 0) (lt-ltb n (2 ^ 64) l)

is_none : (n : ℕ) → 2 ^ 64 ≤ n → bounded n ≡ 0
is_none n g = ap (λ (b : Bool). cond b n 0) (le-ltb n (2 ^ 64) g)

-- the next number after some draws, from this one on
abbrev reach : (step first : ℕ) → ℕ → ℕ
reach step first zero = first
reach step first (suc draws) = number_after step (reach step first draws)

same_step : (numbers : FileNumbers) (draws : ℕ) → (after_draws numbers draws).step ≡ numbers.step
same_step numbers zero = refl
same_step numbers (suc draws) = same_step numbers draws

next_is : (numbers : FileNumbers) (draws : ℕ) → (after_draws numbers draws).next ≡ reach numbers.step numbers.next draws
next_is numbers zero = refl
next_is numbers (suc draws) = λ i. number_after (same_step numbers draws i) (next_is numbers draws i)

-- who has no number draws none
reach_none : (step draws : ℕ) → reach step 0 draws ≡ 0
reach_none step zero = refl
reach_none step (suc draws) = ap (number_after step) (reach_none step draws)

module _ (step first : ℕ) (low : 0 < first) (few : first < 2 ^ 64) where
  abbrev total : ℕ → ℕ
  total draws = first + draws * step

  lasts : (draws : ℕ) → reach step first draws ≡ bounded (total draws)
  lasts zero = let none = zero-mul step in let e : first ≡ total zero = omega (arith, none) in
      e ∙ sym (is_bounded (total zero) (omega (arith, none, few)))
  lasts (suc draws) = grind (arith, lasts draws, suc-mul draws step, low)

module _ (installing worker : ℕ) (some : installing ≤ MOST_INSTALLING) (low : 1 ≤ worker) where
  module _ (high : worker ≤ installing) where
    first_is : (first_numbers installing worker).next ≡ worker
    first_is = ap (λ (b : Bool). cond b 0 worker) (le-ltb installing worker high)

    pub drawn_is : (draws : ℕ) → number_drawn installing worker draws ≡ bounded (worker + draws * installing)
    drawn_is draws = next_is (first_numbers installing worker) draws
        ∙ (ap (λ (n : ℕ). reach installing n draws) first_is ∙ lasts installing worker (omega (arith, low)) (omega (arith, some, high)) draws)

  -- a number that is drawn is the worker's place, and a step more for each draw before
  used : (draws : ℕ) → number_drawn installing worker draws ≢ 0
      → (worker ≤ installing) × (number_drawn installing worker draws ≡ worker + draws * installing)
  used draws some_number = grind (arith, drawn_is, is_bounded, is_none, next_is, reach_none)

-- a number names the worker that drew it, and the draw
same_draw : (installing worker other draws others : ℕ) → 1 ≤ worker → worker ≤ installing → 1 ≤ other → other ≤ installing
    → worker + draws * installing ≡ other + others * installing → (worker ≡ other) × (draws ≡ others)
same_draw installing worker other draws others low high low' high' same =
    let e : draws * installing + (worker - 1) ≡ others * installing + (other - 1) = omega (arith, same, low, low') in
    let d : draws ≡ others = sym (div-mul-add draws installing (worker - 1) (omega (arith, low, high)))
    ∙ (ap (λ (n : ℕ). n / installing) e ∙ div-mul-add others installing (other - 1) (omega (arith, low', high'))) in
    let p = ap (λ (n : ℕ). n * installing) d in (omega (arith, same, p), d)

pub numbers_once : NumbersAreDrawnOnce
numbers_once installing worker other draws others some low low' some_number same =
    let a = used installing worker some low draws some_number in
    let b = used installing other some low' others (λ none. some_number (same ∙ none)) in
    same_draw installing worker other draws others low a.0 low' b.0 (sym a.1 ∙ (same ∙ b.1))

pub numbers_last : NumbersLast
numbers_last installing worker draws some low high = drawn_is installing worker some low high draws

-- a file of a history was installed by some pass
record OfPass (h : List Event) (f : File) : Type 0 where
  pass : ℕ
  there : IsInstalled (part_of_pass pass h) f

of_pass : (h : List Event) (f : File) → IsInstalled h f → OfPass h f
of_pass [] f it = absurd it
of_pass (e ∷ h) f (inl was) = let o = of_pass h f was in record { pass = o.pass; there = more e.pass o.pass o.there }
  where
    more : (p q : ℕ) → IsInstalled (part_of_pass q h) f → IsInstalled (part_of_pass q (e ∷ h)) f
    more p q was = grind arith
of_pass (e ∷ h) f (inr is) = record { pass = e.pass; there = grind arith }

-- two draws of one number are one
pub one_draw : (installing place draw draws number : ℕ) → installing ≤ MOST_INSTALLING → 1 ≤ place → draw < draws → number ≢ 0
    → number ≡ number_drawn installing place draw → number ≡ number_drawn installing place draws → ⊥
one_draw installing place draw draws number some low earlier is one other = grind (arith, numbers_once)

pub own_numbers : FilesHaveTheirOwnNumbers
own_numbers installing h some each f g f_in g_in is same =
    let o = of_pass h f f_in in let p = of_pass h g g_in in
    let mine = (each o.pass).1 in let its = (each p.pass).1 in
    elim (mine.drawn f o.there) [
      | inl none ↦ absurd (is none)
      | inr (low, (draw, earlier, one)) ↦ elim (its.drawn g p.there) [
        | inl none ↦ absurd (is (same ∙ none))
        | inr (low', (draw', earlier', other)) ↦
            let pass : o.pass ≡ p.pass = (numbers_once installing o.pass p.pass draw draw' some low low' (λ none. is (one ∙ none)) (sym one ∙ (same ∙ other))).0 in
            mine.apart f g o.there (subst (λ (n : ℕ). IsInstalled (part_of_pass n h) g) (sym pass) p.there) is same
      ]
    ]
