-- The opening of a shared table, and the states that histories lead to from there.
use Rattle.std.specs.Prelude.{◌≡◌, ℕ, ◌≤◌, Bool, true, false, ◌&&◌, not, nat_lt, List, map}
use Rattle.fx_plain.specs.State.{State, opening, IsSettled}
use Rattle.fx_plain.specs.Contents.{Contents, state_of}
use Rattle.fx_plain.specs.History.{state_after, action_of}
use Rattle.fx_plain.specs.Table.{identity_of}
use Rattle.fx_plain.specs.declared.event.Event.{Event}
use Rattle.fx_table.specs.Numbers.{numbers_for}
use Rattle.fx_table.specs.declared.limits.TheConstants.{CHAIN_NUMBERS}

pub record Opening : Type 0 where
  -- the table that was opened
  pub contents : Contents
  -- the number of chains, which are numbered from 1
  pub chains : ℕ
  -- the number of passes, which are numbered from 1
  pub passes : ℕ
  -- the number of file numbers of each chain
  pub numbers : ℕ
  -- the flag that numbers and look-ups never run out
  pub lasts : Bool

abbrev pub opening_of_chains : Contents → ℕ → ℕ → ℕ → Opening
opening_of_chains plain chains numbers passes = record {
  contents = plain;
  chains = chains;
  passes = passes;
  numbers = numbers;
  lasts = false;
}

-- an opening whose chains have all `CHAIN_NUMBERS` numbers
abbrev pub opening_with : Contents → ℕ → ℕ → Opening
opening_with plain chains passes = opening_of_chains plain chains CHAIN_NUMBERS passes

-- this table was opened for `count` chains, which install at most `most` files each, and for `crew`
-- passes
pub record IsOpenedFor (plain : Contents) (count most crew : ℕ) (o : Opening) : Type 0 where
  pub contents : o.contents ≡ plain
  pub chains : o.chains ≡ count
  pub passes : o.passes ≡ crew
  pub numbers : (most ≤ o.numbers) × (o.numbers ≤ CHAIN_NUMBERS)

-- the opening of a table that lasts, which has no chains
abbrev pub lasting_opening : Contents → ℕ → Opening
lasting_opening plain passes = record {
  contents = plain;
  chains = 0;
  passes = passes;
  numbers = 0;
  lasts = true;
}

abbrev pub size_of : Opening → ℕ
size_of o = (state_of o.contents).size

-- the test that the number, `numbers` of which are prepared, is fresh in a table of `size` slots
-- when passes begin: in a table that lasts, each number from the size on is
abbrev pub is_fresh_at_first : Bool → ℕ → ℕ → ℕ → Bool
is_fresh_at_first false size numbers number = not (nat_lt number size) && nat_lt number numbers
is_fresh_at_first true size numbers number = not (nat_lt number size)

-- the state in which passes begin
abbrev pub start_of : Opening → State
start_of o = record (opening (state_of o.contents) (numbers_for o.chains)) {
  fresh = is_fresh_at_first o.lasts (size_of o) (numbers_for o.chains);
}

abbrev pub range_of : Opening → ℕ × ℕ
range_of o = (state_of o.contents).range

-- the state that a history leads to
abbrev pub state_at : Opening → List Event → State
state_at o h = state_after (start_of o) (map action_of h)

-- the same size, range and files, whatever the files' numbers
pub record HasSameFiles (one other : State) : Type 0 where
  pub size : other.size ≡ one.size
  pub range : other.range ≡ one.range
  pub files : (slot : ℕ) → identity_of (other.at slot) ≡ identity_of (one.at slot)

-- the table that a refused opening returns
pub record IsGivenBack (plain back : Contents) : Type 0 where
  pub files : HasSameFiles (state_of plain) (state_of back)
  pub settled : IsSettled (state_of back)
