-- Calls in a row, and calls that empty or replace a slot.
use Rattle.fx_table.proofs.Words.{◌≤◌, ℕ, ◌+◌, Bool, List, [], ◌++◌, sym, refl, ap, ◌∙◌, arith, map-append, Event, Action, IsSeenBy, ◌▷▷◌, Doing, Use}
use Rattle.fx_table.proofs.Words.{Opening, PassView, IsFront, Adds, ◌≡◌, None, Contents, state_of, append_assoc, no_use, both_uses, Spends, IsNewFile}
use Rattle.fx_table.proofs.Words.{one_number, Placed, Cleared, Taken, Option, Some, option_map, Result, ok_or, ◌▷◌, numbered, File, next_number, Put}
use Rattle.fx_table.proofs.Words.{retired_of, IsFileRemoval, activity_of, retiring, Retired, opening, IsGivenBack, filter-append, append_cancel_right}
use Rattle.fx_table.proofs.Words.{append-nil, Clear, Take, same_identity, settled_at_opening}
use Rattle.fx_table.specs.Showing.{FollowsShown, Learns}
use Rattle.fx_base.specs.Identity.{Identity}
use Rattle.fx_table.specs.declared.values.Empty.{Empty}

pub seen_again : (h : List Event) → IsSeenBy h h
seen_again h = ([], refl)

pub seen_further : (f g h : List Event) → IsSeenBy f g → IsSeenBy g h → IsSeenBy f h
seen_further f g h a b = (b.0 ++ a.0, b.1 ∙ (ap (λ (x : List Event). b.0 ++ x) a.1 ∙ sym (append_assoc b.0 a.0 f)))

spends_least : (lasts : Bool) (before used after : ℕ) → Spends lasts before used after → before ≤ after + used
spends_least lasts before used after spends = grind arith

-- what a pass had is left or used
pub looks_least : {o : Opening} {v w : PassView} {actions : List Action} {doing : Doing} {used : Use} → Adds o v actions doing used w
    → v.looks_left ≤ w.looks_left + used.looks
looks_least {o} {v} {w} {used = used} adds = spends_least o.lasts v.looks_left used.looks w.looks_left adds.looks_left

pub numbers_least : {o : Opening} {v w : PassView} {actions : List Action} {doing : Doing} {used : Use} → Adds o v actions doing used w
    → v.numbers_left ≤ w.numbers_left + used.numbers
numbers_least {o} {v} {w} {used = used} adds = spends_least o.lasts v.numbers_left used.numbers w.numbers_left adds.numbers_left

spends_then : (lasts : Bool) (first middle last used more : ℕ) → Spends lasts first used middle → Spends lasts middle more last
    → Spends lasts first (used + more) last
spends_then lasts first middle last used more one two = grind arith

-- a pass that makes no event adds nothing
pub adds_nothing : (o : Opening) (v : PassView) → IsFront o v → Adds o v [] v.doing no_use v
adds_nothing o v front = grind arith

-- two calls in a row add what each of them adds
pub adds_then : (o : Opening) (u v w : PassView) (xs ys : List Action) (d e : Doing) (a b : Use) → Adds o u xs d a v → Adds o v ys e b w
    → Adds o u (xs ▷▷ ys) e (both_uses a b) w
adds_then o u v w xs ys d e a b one two = record {
  seen = seen_further u.front v.front w.front one.seen two.seen;
  front = two.front;
  own = rw (two.own, one.own, one.number, one.chain, map-append, append_assoc);
  now = two.now;
  number = two.number ∙ one.number;
  chain = two.chain ∙ one.chain;
  drawn = two.drawn ∙ one.drawn;
  no_chains_left = two.no_chains_left ∙ one.no_chains_left;
  numbers_left = spends_then o.lasts u.numbers_left v.numbers_left w.numbers_left a.numbers b.numbers one.numbers_left two.numbers_left;
  looks_left = spends_then o.lasts u.looks_left v.looks_left w.looks_left a.looks b.looks one.looks_left two.looks_left;
}

-- the empty history begins every other one
pub seen_from_start : (h : List Event) → IsSeenBy [] h
seen_from_start h = (h, sym (append-nil h))

unspent : (lasts : Bool) (before after : ℕ) → Spends lasts before 0 after → after ≡ before
unspent lasts before after spends = grind arith

-- a pass that made no action, and whose front has all that was shown, has learned it
pub learned_so : (o : Opening) (shown : List Event) (v w : PassView) → Adds o v [] v.doing no_use w → IsSeenBy shown w.front → Learns o shown v w
learned_so o shown v w adds seen = grind (arith, unspent)

-- what a call adds follows all that its pass had seen
pub follows_shown : (o : Opening) (shown : List Event) (v w : PassView) (actions : List Action) (doing : Doing) (used : Use) → IsFront o v
    → IsSeenBy shown v.front → Adds o v actions doing used w → FollowsShown shown v actions w
follows_shown o shown v w actions doing used front seen adds = grind (arith, append_cancel_right, filter-append)

-- The results of calls that empty or replace a slot.

module _ (o : Opening) (v : PassView) (slot : ℕ) where
  -- a value that names the file by its number
  is_removal : (f : File) (takes : ℕ) → IsFileRemoval o f (retired_of f takes)
  is_removal f takes = record { entry = refl; same = λ _. refl }

  -- a new file under the pass's next number
  pub new_here : (n : ℕ) (its new : Identity) → n ≡ next_number o v → its ≡ new → IsNewFile o v new (numbered n its)
  new_here n its new next same = record { identity = same; same = λ _. rw (next, same) refl }

  pub cleared_so : (file : Option File) (takes : ℕ) (removed : Option Retired) (w : PassView) → removed ≡ option_map (λ f. retired_of f takes) file
      → Adds o v ([] ▷ Clear slot file) (activity_of (retiring file takes)) no_use w → Cleared o v slot removed w
  cleared_so file takes removed w is adds = grind (arith, is_removal)

  -- the same for a close
  pub taken_so : (file : Option File) (takes : ℕ) (removed : Option Retired) (w : PassView) → removed ≡ option_map (λ f. retired_of f takes) file
      → (result : Result Retired Empty) (empty : Empty) → result ≡ ok_or removed empty
      → Adds o v ([] ▷ Take slot file) (activity_of (retiring file takes)) no_use w → Taken o v slot result w
  taken_so file takes removed w is result empty answer adds = grind (arith, is_removal)

  -- the same for an installation, under the pass's next number
  pub placed_so : (file : Option File) (takes : ℕ) (removed : Option Retired) (w : PassView) → removed ≡ option_map (λ f. retired_of f takes) file
      → (n : ℕ) (its new : Identity) → n ≡ next_number o v → its ≡ new
      → Adds o v ([] ▷ Put slot (numbered n its) file) (activity_of (retiring file takes)) one_number w → Placed o v slot new removed w
  placed_so None takes removed w is n its new next same adds = rw is (numbered n its, new_here n its new next same, adds)
  placed_so (Some f) takes removed w is n its new next same adds = grind (arith, new_here, is_removal, new_here n its new next same, is_removal f takes)

-- A prepared table has the same files, under other numbers.

pub prepared_again : (old new : Contents) (numbers : ℕ) → state_of new ≡ opening (state_of old) numbers → IsGivenBack old new
prepared_again old new numbers is = record {
  files = rw is (record { size = refl; range = refl; files = λ slot. same_identity ((state_of old).at slot) slot });
  settled = settled_at_opening (state_of old) (state_of new) numbers is;
}
