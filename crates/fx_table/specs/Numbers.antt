-- The file numbers of each chain, and the chains of each pass if the passes take turns.
use Rattle.std.specs.Prelude.{ℕ, zero, suc, ◌+◌, ◌-◌, ◌*◌, ◌/◌, ◌%◌, nat_lt, if◌then◌else◌}
use Rattle.std.specs.Prelude.{List, [], ◌∷◌}
use Rattle.fx_table.specs.declared.limits.TheConstants.{FIRST_CHAIN_NUMBER, CHAIN_NUMBERS}
use Rattle.fx_plain.specs.History.{◌▷◌}
use Rattle.fx_plain.specs.declared.event.Event.{Event}
use Rattle.fx_plain.specs.declared.event.Action.{Action}
use Rattle.fx_plain.specs.declared.event.Action.TheVariants.{Put, Allocate}

-- the number of file numbers: the number after the last chain's last
abbrev pub numbers_for : ℕ → ℕ
numbers_for chains = FIRST_CHAIN_NUMBER + CHAIN_NUMBERS * chains

-- the same, if each chain has `each` numbers
abbrev pub numbers_up_to : ℕ → ℕ → ℕ
numbers_up_to each chains = FIRST_CHAIN_NUMBER + each * chains

-- the chain that has the number
abbrev pub chain_of_number : ℕ → ℕ
chain_of_number number = (number - FIRST_CHAIN_NUMBER) / CHAIN_NUMBERS + 1

-- the number after the one that an action gave a file, or `n` for an action that gave none
abbrev pub number_following_action : ℕ → Action → ℕ
number_following_action n (Put slot f replaced) = f.number + 1
number_following_action n (Allocate slot f) = f.number + 1
number_following_action n _ = n

-- the number after the last one that the events gave a file, or the first chain's first number
abbrev pub number_following : List Event → ℕ
number_following [] = FIRST_CHAIN_NUMBER
number_following (e ∷ own) = number_following_action (number_following own) e.action

-- the first `count` chains of pass p of n, the last one first: p, p + n, p + 2n and so on
abbrev pub chains_of_pass : ℕ → ℕ → ℕ → List ℕ
chains_of_pass p n zero = []
chains_of_pass p n (suc count) = chains_of_pass p n count ▷ (p + count * n)

-- the last of these chains, or 0
abbrev pub last_chain_of_pass : ℕ → ℕ → ℕ → ℕ
last_chain_of_pass p n zero = 0
last_chain_of_pass p n (suc count) = p + count * n

-- 1 for the numbers from 1 to n, otherwise 0
abbrev pub once : ℕ → ℕ → ℕ
once n zero = 0
once n (suc p) = if nat_lt p n then 1 else 0

-- the pass, of n, that has the chain, and the one that has the number
abbrev pub pass_of_chain : ℕ → ℕ → ℕ
pass_of_chain n chain = (chain - 1) % n + 1

abbrev pub pass_of_number : ℕ → ℕ → ℕ
pass_of_number n number = pass_of_chain n (chain_of_number number)
