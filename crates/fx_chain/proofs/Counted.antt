-- The invariant of `check`: the counts of the requests that it has seen.
use Rattle.fx_chain.proofs.Words.{◌≡◌, ◌≢◌, ℕ, ◌+◌, ◌*◌, ◌<◌, ◌≤◌, ◌==◌, Bool, true, false, if◌then◌else◌, List, [], ◌∷◌, ◌++◌, length, refl, sym}
use Rattle.fx_chain.proofs.Words.{◌∙◌, arith, Option, Some, None, sum_by-append, Asked, is_fixed, is_link, runs_of, open_run, installs_of, MAX_CHAINS}
use Rattle.fx_chain.proofs.Words.{all_installs, fault_after, fault_of_next, has_bad_flags, is_long_read, is_long_update, MOST_MEMBERS, CHAIN_NUMBERS}
use Rattle.fx_chain.proofs.Words.{length-append}
use Rattle.fx_chain.proofs.Runs.{runs-push, open_run-push, open_run-over}

-- the numbers of chains, members and installations after some requests without a fault
pub record AreCounts (front : List Asked) (chains members installs : ℕ) : Type 0 where
  pub chains_is : chains ≡ length (runs_of front)
  pub members_is : members ≡ length (open_run front)
  pub installs_is : installs ≡ all_installs (open_run front)
  pub few : chains ≤ MAX_CHAINS
  pub short : members ≤ MOST_MEMBERS
  pub room : installs ≤ CHAIN_NUMBERS
  pub place : length front ≤ MOST_MEMBERS * chains
  pub inside : 0 < members → length front + MOST_MEMBERS ≤ MOST_MEMBERS * chains + members

pub fault_of_next-counted : {front : List Asked} {chains members installs : ℕ} (r : Asked) → AreCounts front chains members installs
    → fault_of_next front r ≡ fault_after chains members installs r
fault_of_next-counted r is = rw (is.chains_is, is.members_is, is.installs_is)

-- the properties of a request without a fault
pub record IsFine (chains members installs : ℕ) (r : Asked) : Type 0 where
  pub flags : has_bad_flags r.operation (is_fixed r.flags) ≡ false
  pub read : is_long_read r.operation ≡ false
  pub update : is_long_update r.operation ≡ false
  pub not_full : members ≢ MOST_MEMBERS
  pub room : installs + installs_of r.operation ≤ CHAIN_NUMBERS
  pub not_last : members ≡ 0 → chains ≢ MAX_CHAINS

-- if nothing is found, the first test doesn't hold, and the later ones find nothing
pub passed : {X : Type 0} (b : Bool) (x : X) (rest : Option X) → (if b then Some x else rest) ≡ None → (b ≡ false) × (rest ≡ None)
passed b x rest none = grind arith

pub fine : (chains members installs : ℕ) (r : Asked) → fault_after chains members installs r ≡ None → IsFine chains members installs r
fine chains members installs r none = grind arith

pub all_installs-push : (xs : List Asked) (r : Asked) → all_installs (xs ++ r ∷ []) ≡ all_installs xs + installs_of r.operation
all_installs-push xs r = sum_by-append (λ request. installs_of request.operation) xs (r ∷ []) ∙ omega arith

abbrev pub chains_after : ℕ → ℕ → ℕ
chains_after chains members = if members == 0 then chains + 1 else chains

abbrev pub or_none : Bool → ℕ → ℕ
or_none links n = if links then n else 0

-- the bounds on the numbers after one more request
record IsBounded (at chains members : ℕ) : Type 0 where
  pub few : chains ≤ MAX_CHAINS
  pub short : members ≤ MOST_MEMBERS
  pub place : at ≤ MOST_MEMBERS * chains
  pub inside : 0 < members → at + MOST_MEMBERS ≤ MOST_MEMBERS * chains + members

bounded_step : {front : List Asked} {chains members installs : ℕ} {r : Asked} → AreCounts front chains members installs
    → IsFine chains members installs r → (links : Bool) → IsBounded (length front + 1) (chains_after chains members) (or_none links (members + 1))
bounded_step {front} {chains} {members} is f links = grind arith

-- the open run after one more request
open_run-after : (F : List Asked → ℕ) (front : List Asked) (r : Asked) (n : ℕ) → F (open_run front ++ r ∷ []) ≡ n → F [] ≡ 0
    → or_none (is_link r.flags) n ≡ F (open_run (front ++ r ∷ []))
open_run-after F front r n more nil = grind (arith, open_run-push, open_run-over)

pub counted_step : {front : List Asked} {chains members installs : ℕ} (r : Asked) → AreCounts front chains members installs
    → fault_after chains members installs r ≡ None
    → AreCounts (front ++ r ∷ []) (chains_after chains members) (or_none (is_link r.flags) (members + 1))
    (or_none (is_link r.flags) (installs + installs_of r.operation))
counted_step {front} {chains} {members} {installs} r is none =
    let f = fine chains members installs r none in
    let bounds = bounded_step is f (is_link r.flags) in
    let grown = length-append front (r ∷ []) in
    record {
      chains_is = rw (is.chains_is, is.members_is) (sym (runs-push front r));
      members_is = open_run-after length front r (members + 1) (rw is.members_is (length-append (open_run front) (r ∷ []))) refl;
      installs_is = open_run-after all_installs front r (installs + installs_of r.operation)
          (rw is.installs_is (all_installs-push (open_run front) r)) refl;
      few = bounds.few;
      short = bounds.short;
      room = elim (is_link r.flags) as (λ b. or_none b (installs + installs_of r.operation) ≤ CHAIN_NUMBERS) [ true ↦ f.room | false ↦ omega arith ];
      place = omega arith;
      inside = λ some. let more = bounds.inside some in omega arith;
    }

pub counted_none : AreCounts [] 0 0 0
counted_none = omega arith
