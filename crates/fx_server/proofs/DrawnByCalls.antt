-- Each call installs files with the worker's own numbers, each for one file.
use Rattle.fx_server.proofs.Words.{rules, List, [], Option, Some, None, Result, refl, subst, arith, ◌++◌, Action, Event, Doing, Spent, Retired, Start}
use Rattle.fx_server.proofs.Words.{◌≡◌, Release, LookedUp, Opening, PassView, event_of, EmptySlot, HeldByKey, KeyFault, file_with, WasDrawn, its_pass}
use Rattle.fx_server.proofs.Words.{◌≢◌, ◌⊎◌, inl, inr, ℕ, suc, ◌≤◌, ◌∷◌, map, Ok, Err, sym, ap, ◌∙◌, ◌▷◌, ◌▷▷◌, File, Adds, Use, Hold, Key, Identity}
use Rattle.fx_server.proofs.Words.{append_assoc, installed_by, ReleasesFile, MOST_INSTALLING, number_drawn, DrawsItsNumbers, number_of_file}
use Rattle.fx_server.proofs.Words.{IsInstalled, HasRetired, LookedByKey, after_draw, after_keep, without_kept, FileNumbers, TableWorker}
use Rattle.fx_table.specs.declared.values.LookFault.{LookFault}
use Rattle.fx_server.proofs.FileNumbers.{one_draw}

-- the events of a pass go on
pub record Grows (v w : PassView) : Type 0 where
  pub since : List Event
  pub own : w.own ≡ v.own ▷▷ since
  pub number : w.number ≡ v.number

-- no file more was installed, or only this one
pub record AddsNone (v w : PassView) : Type 0 where
  pub grows : Grows v w
  pub none : (f : File) → IsInstalled grows.since f → ⊥

pub record AddsOne (v w : PassView) (new : File) : Type 0 where
  pub grows : Grows v w
  pub there : IsInstalled grows.since new
  pub only : (f : File) → IsInstalled grows.since f → f ≡ new

-- what both parts of a history install, and what one of them does
pub installed_earlier : (h more : List Event) (f : File) → IsInstalled h f → IsInstalled (more ++ h) f
installed_earlier h [] f it = it
installed_earlier h (e ∷ more) f it = inl (installed_earlier h more f it)

pub installed_later : (h more : List Event) (f : File) → IsInstalled more f → IsInstalled (more ++ h) f
installed_later h [] f it = absurd it
installed_later h (e ∷ more) f (inl was) = inl (installed_later h more f was)
installed_later h (e ∷ more) f (inr is) = inr is

installed_in : (h more : List Event) (f : File) → IsInstalled (more ++ h) f → IsInstalled h f ⊎ IsInstalled more f
installed_in h [] f it = inl it
installed_in h (e ∷ more) f (inl was) = elim (installed_in h more f was) [ inl before ↦ inl before | inr after ↦ inr (inl after) ]
installed_in h (e ∷ more) f (inr is) = inr (inr is)

pub was_there : {v w : PassView} → AddsNone v w → (f : File) → IsInstalled w.own f → IsInstalled v.own f
was_there none f it = grind (arith, installed_in)

was_or_new : {v w : PassView} {new : File} → AddsOne v w new → (f : File) → IsInstalled w.own f → IsInstalled v.own f ⊎ (f ≡ new)
was_or_new one f it = grind (arith, installed_in)

abbrev pub grows_then : {a b c : PassView} → Grows a b → Grows b c → Grows a c
grows_then {a} one two = record {
  since = two.since ++ one.since;
  own = two.own ∙ (ap (λ (own : List Event). own ▷▷ two.since) one.own ∙ sym (append_assoc two.since one.since a.own));
  number = two.number ∙ one.number;
}

abbrev AllNone : List Action → Type 0
AllNone [] = Unit {0}
AllNone (a ∷ actions) = (installed_by a ≡ None) × AllNone actions

nones : (v : PassView) (actions : List Action) → AllNone actions → (f : File) → IsInstalled (map (event_of v) actions) f → ⊥
nones v [] none f it = it
nones v (a ∷ actions) none f (inl was) = nones v actions none.1 f was
nones v (a ∷ actions) none f (inr is) = let bad : None ≡ Some f = sym none.0 ∙ is in cc

pub added_none : (o : Opening) (v : PassView) (actions : List Action) (doing : Doing) (use' : Use) (w : PassView) → Adds o v actions doing use' w → AllNone actions → AddsNone v w
added_none o v actions doing use' w adds none = record {
  grows = record { since = map (event_of v) actions; own = adds.own; number = adds.number };
  none = nones v actions none;
}

-- a file that the action installs
its_file : (a : Action) (new f : File) → installed_by a ≡ Some new → installed_by a ≡ Some f → f ≡ new
its_file a new f is it = let same : Some new ≡ Some f = sym is ∙ it in cc

pub added_one : (o : Opening) (v : PassView) (a : Action) (doing : Doing) (use' : Use) (w : PassView) (new : File) → Adds o v ([] ▷ a) doing use' w → installed_by a ≡ Some new
    → AddsOne v w new
added_one o v a doing use' w new adds is = record {
  grows = record { since = event_of v a ∷ []; own = adds.own; number = adds.number };
  there = inr is;
  only = λ f it. elim it [ inl bad ↦ absurd bad | inr its ↦ its_file a new f is its ];
}

pub same_none : (v w : PassView) → w ≡ v → AddsNone v w
same_none v w same = record {
  grows = record { since = []; own = ap (λ (p : PassView). p.own) same; number = ap (λ (p : PassView). p.number) same };
  none = λ f it. it;
}

pub both_none : (a b c : PassView) → AddsNone a b → AddsNone b c → AddsNone a c
both_none a b c one two = record {
  grows = grows_then one.grows two.grows;
  none = λ f it. elim (installed_in one.grows.since two.grows.since f it) [ inl was ↦ one.none f was | inr is ↦ two.none f is ];
}

pub none_then : (a b c : PassView) (new : File) → AddsNone a b → AddsOne b c new → AddsOne a c new
none_then a b c new one two = record {
  grows = grows_then one.grows two.grows;
  there = installed_later one.grows.since two.grows.since new two.there;
  only = λ f it. elim (installed_in one.grows.since two.grows.since f it) [ inl was ↦ absurd (one.none f was) | inr is ↦ two.only f is ];
}

-- a release, and an installation after it
pub added_after : (o : Opening) (v : PassView) (g : File) (a : Action) (doing : Doing) (use' : Use) (w : PassView) (new : File) → Adds o v ([] ▷ Release g ▷ a) doing use' w
    → installed_by a ≡ Some new → AddsOne v w new
added_after o v g a doing use' w new adds is = record {
  grows = record { since = event_of v a ∷ event_of v (Release g) ∷ []; own = adds.own; number = adds.number };
  there = inr is;
  only = λ f it. elim it [ inl was ↦ absurd (nones v ([] ▷ Release g) (refl, tt) f was) | inr its ↦ its_file a new f is its ];
}

pub one_then : (a b c : PassView) (new : File) → AddsOne a b new → AddsNone b c → AddsOne a c new
one_then a b c new one two = record {
  grows = grows_then one.grows two.grows;
  there = installed_earlier one.grows.since two.grows.since new one.there;
  only = λ f it. elim (installed_in one.grows.since two.grows.since f it) [ inl was ↦ one.only f was | inr is ↦ absurd (two.none f is) ];
}

pub looked_none : (o : Opening) (v : PassView) (slot : ℕ) (found : Result Hold LookFault) (out : Option Identity) (w : PassView) → LookedUp o v slot found out w → AddsNone v w
looked_none o v slot (Ok hold) None w it = added_none o v _ _ _ w it.2 (refl, tt)
looked_none o v slot (Ok hold) (Some file) w it = added_none o v _ _ _ w it.2.2 (refl, (refl, tt))
looked_none o v slot (Err EmptySlot) None w it = added_none o v _ _ _ w it (refl, tt)
looked_none o v slot (Err EmptySlot) (Some file) w it = added_none o v _ _ _ w it.2 (refl, (refl, tt))
looked_none o v slot (Err Spent) None w it = same_none v w it.1
looked_none o v slot (Err Spent) (Some file) w it = same_none v w it.2.1

pub released_none : (o : Opening) (v : PassView) (g : File) (out : Option Identity) (w : PassView) → ReleasesFile o v g out w → AddsNone v w
released_none o v g None w it = added_none o v _ _ _ w it (refl, tt)
released_none o v g (Some file) w it = added_none o v _ _ _ w it.1 (refl, (refl, tt))

pub retired_none : (o : Opening) (v : PassView) (retired : Retired) (file : Option Identity) (w : PassView) → HasRetired o v retired file w → AddsNone v w
retired_none o v retired None w it = added_none o v _ _ _ w it.2.1 tt
retired_none o v retired (Some file) w it = added_none o v _ _ _ w it.2.1 (refl, tt)

pub held_none : (k : Start) (v : PassView) (key : Key) (hold : Hold) (freed released : Option Identity) (w : PassView) → HeldByKey k v key hold freed released w → AddsNone v w
held_none k v key hold freed released w it = search (rules, both_none, looked_none, released_none)

pub key_none : (k : Start) (v : PassView) (key : Key) (found : Result Hold KeyFault) (freed released : Option Identity) (w : PassView) → LookedByKey k v key found freed released w
    → AddsNone v w
key_none k v key found freed released w it = search (rules, looked_none, same_none, both_none, released_none)

-- the number of a file that a worker made
pub number_of_new : (new : File) (tag number : ℕ) → new.identity ≡ file_with tag number → number_of_file new ≡ number
number_of_new new tag number is = grind arith

later : (installing place draws number : ℕ) → WasDrawn installing place draws number → WasDrawn installing place (suc draws) number
later installing place draws number h5 = grind arith

module _ (installing place : ℕ) (some : installing ≤ MOST_INSTALLING) (low : 1 ≤ place) (w w' : TableWorker) (d : DrawsItsNumbers installing place w) where
  next_is : w.numbers.next ≡ number_drawn installing place d.draws
  next_is = ap (λ (n : FileNumbers). n.next) d.numbers

  -- a number that was drawn isn't the next one
  not_next : (number : ℕ) → WasDrawn installing place d.draws number → number ≢ 0 → number ≡ w.numbers.next → ⊥
  not_next number (inl none) is same = is none
  not_next number (inr (low', (draw, earlier, one))) is same = one_draw installing place draw d.draws number some low earlier is one (same ∙ next_is)

  pub stays : AddsNone (its_pass w) (its_pass w') → w'.numbers ≡ w.numbers → DrawsItsNumbers installing place w'
  stays none same = let kept : w'.numbers.kept ≡ w.numbers.kept = ap (λ (n : FileNumbers). n.kept) same in record {
    draws = d.draws;
    numbers = ap without_kept same ∙ d.numbers;
    files = record { drawn = λ f it. d.files.drawn f (was_there none f it); apart = λ f g f_in g_in. d.files.apart f g (was_there none f f_in) (was_there none g g_in) };
    kept = subst (λ (n : ℕ). WasDrawn installing place d.draws n) (sym kept) d.kept;
    unused = λ f it is its. d.unused f (was_there none f it) (λ zero'. is (kept ∙ zero')) (its ∙ kept);
  }

  pub spends : AddsNone (its_pass w) (its_pass w') → w'.numbers ≡ without_kept w.numbers → DrawsItsNumbers installing place w'
  spends none same = let kept : w'.numbers.kept ≡ 0 = ap (λ (n : FileNumbers). n.kept) same in record {
    draws = d.draws;
    numbers = ap without_kept same ∙ d.numbers;
    files = record { drawn = λ f it. d.files.drawn f (was_there none f it); apart = λ f g f_in g_in. d.files.apart f g (was_there none f f_in) (was_there none g g_in) };
    kept = inl kept;
    unused = λ f it is its. is kept;
  }

  pub keeps : AddsNone (its_pass w) (its_pass w') → w'.numbers ≡ after_keep w.numbers → DrawsItsNumbers installing place w'
  keeps none same = let kept : w'.numbers.kept ≡ w.numbers.next = ap (λ (n : FileNumbers). n.kept) same in record {
    draws = suc d.draws;
    numbers = ap without_kept same ∙ ap after_draw d.numbers;
    files = record {
      drawn = λ f it. later installing place d.draws (number_of_file f) (d.files.drawn f (was_there none f it));
      apart = λ f g f_in g_in. d.files.apart f g (was_there none f f_in) (was_there none g g_in);
    };
    kept = inr (low, (d.draws, omega arith, kept ∙ next_is));
    unused = λ f it is its. not_next (number_of_file f) (d.files.drawn f (was_there none f it)) (λ zero'. is (sym its ∙ zero')) (its ∙ kept);
  }

  -- a new file with a number that no earlier one has
  with_one : (new : File) → ((f : File) → IsInstalled (its_pass w).own f → number_of_file new ≢ 0 → number_of_file f ≢ number_of_file new)
      → (f g : File) → IsInstalled (its_pass w).own f ⊎ (f ≡ new) → IsInstalled (its_pass w).own g ⊎ (g ≡ new) → number_of_file f ≢ 0 → number_of_file f ≡ number_of_file g → f ≡ g
  with_one new fresh f g h5 h6 is same = grind arith

  pub installs : (new : File) → AddsOne (its_pass w) (its_pass w') new → number_of_file new ≡ w.numbers.next → w'.numbers ≡ after_draw w.numbers
      → DrawsItsNumbers installing place w'
  installs new one its same = let kept : w'.numbers.kept ≡ w.numbers.kept = ap (λ (n : FileNumbers). n.kept) same in record {
    draws = suc d.draws;
    numbers = ap without_kept same ∙ ap after_draw d.numbers;
    files = record {
      drawn = λ f it. elim (was_or_new one f it) [
        | inl was ↦ later installing place d.draws (number_of_file f) (d.files.drawn f was)
        | inr is ↦ inr (low, (d.draws, omega arith, ap number_of_file is ∙ (its ∙ next_is)))
      ];
      apart = λ f g f_in g_in. with_one new (λ h was is same'. not_next (number_of_file h) (d.files.drawn h was) (λ zero'. is (sym same' ∙ zero')) (same' ∙ its)) f g (was_or_new one f f_in) (was_or_new one g g_in);
    };
    kept = later installing place d.draws w'.numbers.kept (subst (λ (n : ℕ). WasDrawn installing place d.draws n) (sym kept) d.kept);
    unused = λ f it is number. elim (was_or_new one f it) [
      | inl was ↦ d.unused f was (λ zero'. is (kept ∙ zero')) (number ∙ kept)
      | inr new' ↦ not_next w.numbers.kept d.kept (λ zero'. is (kept ∙ zero')) (sym (number ∙ kept) ∙ (ap number_of_file new' ∙ its))
    ];
  }

  pub installs_kept : (new : File) → AddsOne (its_pass w) (its_pass w') new → number_of_file new ≡ w.numbers.kept → w'.numbers ≡ without_kept w.numbers
      → DrawsItsNumbers installing place w'
  installs_kept new one its same = let kept : w'.numbers.kept ≡ 0 = ap (λ (n : FileNumbers). n.kept) same in record {
    draws = d.draws;
    numbers = ap without_kept same ∙ d.numbers;
    files = record {
      drawn = λ f it. elim (was_or_new one f it) [
        | inl was ↦ d.files.drawn f was
        | inr is ↦ subst (λ (n : ℕ). WasDrawn installing place d.draws n) (sym (ap number_of_file is ∙ its)) d.kept
      ];
      apart = λ f g f_in g_in. with_one new (λ h was is same'. d.unused h was (λ zero'. is (its ∙ zero')) (same' ∙ its)) f g (was_or_new one f f_in) (was_or_new one g g_in);
    };
    kept = inl kept;
    unused = λ f it is number. is kept;
  }
