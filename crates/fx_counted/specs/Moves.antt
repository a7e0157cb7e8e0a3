-- A pass that has the place of a number.
use Rattle.std.specs.Prelude.{◌≡◌, ◌<◌, ◌⊎◌, ◌∷◌, ℕ, [], Option}
use Rattle.fx_counted.specs.Words.{Identity, Log, Start, Between, Placing, Emptying, Idle}
use Rattle.fx_counted.specs.Laws.{HasPass, place_of}
use Rattle.fx_counted.specs.Passes.{Sat, IsNumber, next_in}

-- the seat's pass has the place of the number, to install its file or because its file is closed;
-- the place has this content
pub record HasPlace (k : Start) (number : ℕ) (inside : Option Identity) (m : Sat) : Type 0 where
  pub log : Log
  pub pass : HasPass k m log
  pub known : IsNumber k number
  pub work : (m.0.work ≡ Emptying number) ⊎ (m.0.work ≡ Placing number)
  pub place : m.1 ≡ (place_of k number, inside) ∷ []

-- an idle pass whose next number is this one
pub record MayPlace (k : Start) (number : ℕ) (m : Sat) : Type 0 where
  pub log : Log
  pub pass : HasPass k m log
  pub idle : m.0.work ≡ Between Idle
  pub some_left : 0 < log.numbers_left
  pub next : number ≡ next_in k log
  pub known : IsNumber k number
  pub places : m.1 ≡ []
