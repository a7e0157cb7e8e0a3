-- The actions of a player, one after another.
use Rattle.fx_chain.proofs.Words.{◌≡◌, ℕ, ◌+◌, ◌≤◌, List, [], length, refl, ap, append_assoc, append-nil, arith, ◌∙◌, length-append, Option, Some}
use Rattle.fx_chain.proofs.Words.{None, is_some, Action, Look, Release, ◌▷◌, ◌▷▷◌, closes_in, closed_by, Opening, PlayerView, ActsSo, PassView, Use}
use Rattle.fx_chain.proofs.Words.{IsFront, IsIdle, Adds, one_look, both_uses, Retired, MayClose, player, Acts, IsRetirement, IsRelease, File, Doing}
use Rattle.fx_chain.proofs.Words.{Hold, adds_nothing, adds_then}
use Rattle.fx_plain.proofs.Leading.{closes_in-then}
use Rattle.fx_table.specs.declared.values.Doing.TheVariants.{Idle, Holding, Retiring}

-- no step is needed for what can be said of none
pub so_nothing : {o : Opening} {p : PlayerView} {looks numbers files : ℕ} (Says : List Action → Type 0)
    → IsFront o p.pass → IsIdle p.pass → Says [] → ActsSo o p looks numbers files Says p
so_nothing {o} {p} Says front idle said = grind (arith, adds_nothing, append-nil)

-- some actions, after which the pass may do anything, and then others
pub acts_then : {o : Opening} {p u q : PlayerView} {xs : List Action} {doing : Doing} {used : Use}
    {looks numbers files all_looks all_numbers all_files : ℕ} {Says Tells : List Action → Type 0} → Acts o p xs doing used u
    → ActsSo o u looks numbers files Says q → ((ys : List Action) → Says ys → Tells (xs ▷▷ ys)) → used.looks + looks ≤ all_looks
    → used.numbers + numbers ≤ all_numbers → length (closes_in xs) + files ≤ all_files → ActsSo o p all_looks all_numbers all_files Tells q
acts_then {o} {p} {u} {q} {xs} {doing} {used} acts does so l n f =
    let both = closes_in-then xs does.actions in
    let whole = ap length both ∙ length-append (closes_in xs) (closes_in does.actions) in
    record {
      actions = xs ▷▷ does.actions;
      used = both_uses used does.used;
      acts = record {
        adds = adds_then o p.pass u.pass q.pass xs does.actions doing Idle used does.used acts.adds does.acts.adds;
        files = rw (both, ← append_assoc, ← acts.files) does.acts.files;
        room = omega arith;
      };
      says = so does.actions does.says;
      few_looks = omega arith;
      few_numbers = omega arith;
      few_files = omega arith;
    }

-- one thing, and then another
pub so_then : {o : Opening} {p q r : PlayerView} {looks numbers files more_looks more_numbers more_files all_looks all_numbers all_files : ℕ}
    {Says Tells Both : List Action → Type 0} → ActsSo o p looks numbers files Says q → ActsSo o q more_looks more_numbers more_files Tells r
    → ((xs ys : List Action) → Says xs → Tells ys → Both (xs ▷▷ ys))
    → looks + more_looks ≤ all_looks → numbers + more_numbers ≤ all_numbers → files + more_files ≤ all_files
    → ActsSo o p all_looks all_numbers all_files Both r
so_then one two so l n f = grind (arith, acts_then)

-- a call that closes nothing
call : {o : Opening} {p : PlayerView} {u : PassView} {step : Action} {doing : Doing} {used : Use} → Adds o p.pass ([] ▷ step) doing used u
    → closed_by step ≡ [] → Acts o p ([] ▷ step) doing used (player u p.closes)
call {p} {step} adds none = grind (arith, append-nil)

-- a call that closes nothing, and then other actions
calls_then : {o : Opening} {p q : PlayerView} {u : PassView} {step : Action} {doing : Doing} {used : Use} {looks numbers files : ℕ}
    {Says Tells : List Action → Type 0} → Adds o p.pass ([] ▷ step) doing used u → closed_by step ≡ []
    → ((xs : List Action) → Says xs → Tells (([] ▷ step) ▷▷ xs)) → ActsSo o (player u p.closes) looks numbers files Says q
    → ActsSo o p (used.looks + looks) (used.numbers + numbers) files Tells q
calls_then {step} adds none so does =
    let count : length (closes_in ([] ▷ step)) ≡ 0 = ap length none in
    acts_then (call adds none) does so (omega arith) (omega arith) (omega arith)

-- earlier actions may come before
may_close_behind : (xs steps : List Action) (removed : Option File) (ys : List Action) → MayClose steps removed ys
    → MayClose (xs ▷▷ steps) removed (xs ▷▷ ys)
may_close_behind xs steps removed ys h5 = grind arith

-- a look-up that found a file, and its release
pub looks_and_releases : {o : Opening} {p q : PlayerView} {u : PassView} {slot : ℕ} {f : File} {hold : Hold} {Says : List Action → Type 0}
    → Adds o p.pass ([] ▷ Look slot (Some f)) (Holding f hold) one_look u → IsRelease o (player u p.closes) q
    → ((xs : List Action) → MayClose ([] ▷ Look slot (Some f) ▷ Release f) (Some f) xs → Says xs) → ActsSo o p 1 0 1 Says q
looks_and_releases {slot} {f} adds (g, hold, doing, does) so =
    let same : g ≡ f = let now = adds.now in cc in
    calls_then adds refl (λ xs told. so _ (may_close_behind ([] ▷ Look slot (Some f)) ([] ▷ Release f) (Some f) xs told)) (rw same at does)

-- a call made its step at its slot, and removed what was there, if anything
abbrev pub Removed : Opening → PassView → (Option File → Action) → Use → Option Retired → PassView → Type 0
Removed o v step used None w = Adds o v ([] ▷ step None) Idle used w
Removed o v step used (Some x) w = (f : File) × Adds o v ([] ▷ step (Some f)) (Retiring f x) used w

-- the step, and the retirement of what it removed
pub removes : {o : Opening} {p q : PlayerView} (u : PassView) (step : Option File → Action) (used : Use) (removed : Option Retired)
    → ((r : Option File) → closed_by (step r) ≡ []) → Removed o p.pass step used removed u → IsRetirement o (player u p.closes) removed q
    → (r : Option File) × (is_some removed ≡ is_some r) × ActsSo o p (used.looks + 0) (used.numbers + 0) 1 (MayClose ([] ▷ step r) r) q
removes u step used None none adds does = (None, refl, calls_then adds (none None) (may_close_behind ([] ▷ step None) [] None) does)
removes u step used (Some x) none (f, adds) (g, doing, does) =
    let same : g ≡ f = let now = adds.now in cc in
    (Some f, refl, calls_then adds (none (Some f)) (may_close_behind ([] ▷ step (Some f)) [] (Some f)) (rw same at does))
