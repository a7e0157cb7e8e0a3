-- Properties by the cases of a test, and of a value that may be absent.
use Rattle.fx_chain.proofs.Words.{arith, ◌≡◌, Bool, true, false, Option, None, MatchOption, MatchBool}

pub either_way : {P Q R : Type 0} (b : Bool) → (b ≡ true → P → R) → (b ≡ false → Q → R) → MatchBool b P Q → R
either_way b yes_so not_so given = grind arith

pub either_case : {P Q R : Type 0} (b : Bool) → (P → R) → (Q → R) → MatchBool b P Q → R
either_case b yes_so not_so = either_way b (λ _. yes_so) (λ _. not_so)

pub same_cases : {P Q R S : Type 0} (b : Bool) → (P → R) → (Q → S) → MatchBool b P Q → MatchBool b R S
same_cases b yes_so not_so given = grind arith

pub both_ways : {P Q S T R : Type 0} (b : Bool) → (P → S → R) → (Q → T → R) → MatchBool b P Q → MatchBool b S T → R
both_ways b yes_so not_so one other = grind arith

pub either_option : {X P R : Type 0} {Q : X → Type 0} (o : Option X) → (o ≡ None → P → R) → ((x : X) → Q x → R) → MatchOption o P Q → R
either_option o none_so some_so given = grind arith

pub same_options : {X P R : Type 0} {Q S : X → Type 0} (o : Option X) → (P → R) → ((x : X) → Q x → S x) → MatchOption o P Q → MatchOption o R S
same_options o none_so some_so given = grind arith

pub both_options : {X P S R : Type 0} {Q T : X → Type 0} (o : Option X) → (P → S → R) → ((x : X) → Q x → T x → R)
    → MatchOption o P Q → MatchOption o S T → R
both_options o none_so some_so one other = grind arith
