-- One step of a table, and a history, with other numbers.
use Rattle.fx_plain.proofs.Words.{◌≡◌, ◌≢◌, ℕ, ◌<◌, Bool, true, false, List, [], ◌∷◌, map, refl, sym, ap, ◌∙◌, Option, Some, None}
use Rattle.fx_plain.proofs.Words.{IsSome, if◌then◌else◌, State, Allows, AllowsAll, after, state_after, changed_at, with_removed, IsLegal}
use Rattle.fx_plain.proofs.Words.{action_of, File, Event, Action, Put, Take, Allocate, installed_by}
use Rattle.fx_plain.specs.History.{held_after, held_by, ReleasesItsOwn, AllReleaseTheirOwn}
use Rattle.fx_plain.specs.Reopening.{Renaming, renamed_found, renamed, renamed_event}
use Rattle.std.proofs.Common.{arith}

-- each number leads r.back to one that leads to it
abbrev pub IsOneToOne : Renaming → Type 0
IsOneToOne r = (new old : ℕ) → r.back new ≡ Some old → r.number old ≡ new

-- the number leads to one that leads back
abbrev pub IsNamed : Renaming → ℕ → Type 0
IsNamed r old = r.back (r.number old) ≡ Some old

-- so does the number of the file that was found, if there is one
abbrev pub KnowsFound : Renaming → Option File → Type 0
KnowsFound r found = (f : File) → found ≡ Some f → IsNamed r f.number

-- the value under a new number: that of the old number, or else that of a table without files
abbrev pub read_at : {X Y : Type 0} → (X → Y) → Y → (ℕ → X) → Option ℕ → Y
read_at g none f None = none
read_at g none f (Some old) = g (f old)

-- the state with other numbers, and with these fresh ones
abbrev pub renamed_state : Renaming → (ℕ → Bool) → State → State
renamed_state r fresh st = record {
  size = st.size;
  range = st.range;
  at = λ slot. renamed_found r (st.at slot);
  removed = λ new. read_at (renamed_found r) None st.removed (r.back new);
  holds = λ new. read_at (λ n. n) 0 st.holds (r.back new);
  fresh = fresh;
}

-- each file of the state has a number that leads to one which leads back, and each such number that
-- is fresh leads to a fresh one
pub record IsRenamable (r : Renaming) (fresh : ℕ → Bool) (st : State) : Type 0 where
  pub at : (slot : ℕ) → KnowsFound r (st.at slot)
  pub held : (old : ℕ) → 0 < st.holds old → IsNamed r old
  pub removed : (old : ℕ) → KnowsFound r (st.removed old)
  pub stays_fresh : (old : ℕ) → IsNamed r old → st.fresh old ≡ true → fresh (r.number old) ≡ true

-- so has each file that one of the actions installs
abbrev pub InstallsNamed : Renaming → List Action → Type 0
InstallsNamed r [] = Unit {0}
InstallsNamed r (action ∷ h) = InstallsNamed r h × KnowsFound r (installed_by action)

-- a property of the new value, and of each old one at another place, holds for each value
each_changed : {X : Type 0} (P : ℕ → X → Type 0) (f : ℕ → X) (n : ℕ) (v : X) → P n v → (m : ℕ) → (m ≢ n → P m (f m)) → P m (changed_at f n v m)
each_changed P f n v here m others = grind arith

some_renamed : (r : Renaming) (x : Option File) → IsSome x → IsSome (renamed_found r x)
some_renamed r x is = grind arith

-- the fresh numbers after an action
abbrev pub fresh_after : Renaming → (ℕ → Bool) → Action → ℕ → Bool
fresh_after r fresh (Put slot f replaced) = changed_at fresh (r.number f.number) false
fresh_after r fresh (Allocate slot f) = changed_at fresh (r.number f.number) false
fresh_after r fresh _ = fresh

-- and after more of them
abbrev pub fresh_behind : Renaming → (ℕ → Bool) → List Action → ℕ → Bool
fresh_behind r fresh [] = fresh
fresh_behind r fresh (a ∷ h) = fresh_after r (fresh_behind r fresh h) a

module _ (r : Renaming) (one : IsOneToOne r) where
  -- a change under an old number is one under the new number
  changed_back : {X Y : Type 0} (g : X → Y) (none : Y) (f : ℕ → X) {n : ℕ} (v : X) → IsNamed r n
      → changed_at (λ k. read_at g none f (r.back k)) (r.number n) (g v) ≡ (λ k. read_at g none (changed_at f n v) (r.back k))
  changed_back g none f {n} v known = grind arith

  module _ {fresh : ℕ → Bool} {st : State} (k : IsRenamable r fresh st) where
    abbrev other : State
    other = renamed_state r fresh st

    held_same : {n : ℕ} → IsNamed r n → other.holds (r.number n) ≡ st.holds n
    held_same known = ap (read_at (λ x. x) 0 st.holds) known

    allows : (a : Action) → KnowsFound r (installed_by a) → Allows st a → Allows other (renamed r a)
    allows a known h3 = grind (arith, held_same, some_renamed)

    -- a hold more or less
    holds_back : (change : ℕ → ℕ) {n : ℕ} → IsNamed r n → changed_at other.holds (r.number n) (change (other.holds (r.number n)))
        ≡ (λ k. read_at (λ x. x) 0 (changed_at st.holds n (change (st.holds n))) (r.back k))
    holds_back change {n} known = grind arith

    known_found : (slot : ℕ) {found : Option File} → found ≡ st.at slot → KnowsFound r found
    known_found slot is f some = k.at slot f (sym is ∙ some)

    emptied_is : (slot : ℕ) {found : Option File} → found ≡ st.at slot
        → after other (renamed r (Take slot found)) ≡ renamed_state r fresh (after st (Take slot found))
    emptied_is slot {found} is = grind arith

    after_is : (a : Action) → Allows st a → after other (renamed r a) ≡ renamed_state r (fresh_after r fresh a) (after st a)
    after_is a may = grind (arith, holds_back, emptied_is, changed_back)

    -- the files of the state afterwards
    file_changed : {files : ℕ → Option File} → ((m : ℕ) → KnowsFound r (files m)) → (n : ℕ) {new : Option File} → KnowsFound r new
        → (m : ℕ) → KnowsFound r (changed_at files n new m)
    file_changed {files} all n {new} known m f = each_changed (λ v x. x ≡ Some f → IsNamed r f.number) files n new (known f) m (λ other. all m f)

    held_changed : (held : ℕ) {n : ℕ} → IsNamed r n → (m : ℕ) → 0 < changed_at st.holds n held m → IsNamed r m
    held_changed held {n} known m = each_changed (λ v x. 0 < x → IsNamed r v) st.holds n held (λ some. known) m (λ other. k.held m)

    removed_after : (found : Option File) → KnowsFound r found → (m : ℕ) → KnowsFound r (with_removed st.removed found m)
    removed_after None known = k.removed
    removed_after (Some g) known = file_changed k.removed g.number known

    still_fresh : {n : ℕ} → IsNamed r n → (m : ℕ) → IsNamed r m → changed_at st.fresh n false m ≡ true
        → changed_at fresh (r.number n) false (r.number m) ≡ true
    still_fresh {n} known m named is = grind arith

    nothing_known : KnowsFound r None
    nothing_known f none = absurd (cc none)

    stays_emptied : (slot : ℕ) (found : Option File) → found ≡ st.at slot → IsRenamable r fresh (after st (Take slot found))
    stays_emptied slot found is = assumption (file_changed k.at slot nothing_known, removed_after found (known_found slot is))

    stays_renamable : (a : Action) → KnowsFound r (installed_by a) → Allows st a → IsRenamable r (fresh_after r fresh a) (after st a)
    stays_renamable a known may = grind (arith, held_changed, removed_after, stays_emptied, file_changed, still_fresh, nothing_known)

  -- a history of actions
  module _ {fresh : ℕ → Bool} {start : State} (k : IsRenamable r fresh start) where
    renamable_behind : (h : List Action) → InstallsNamed r h → AllowsAll start h → IsRenamable r (fresh_behind r fresh h) (state_after start h)
    renamable_behind [] known may = k
    renamable_behind (a ∷ h) known may = stays_renamable (renamable_behind h known.0 may.0) a known.1 may.1

    state_behind : (h : List Action) → InstallsNamed r h → AllowsAll start h
        → state_after (renamed_state r fresh start) (map (renamed r) h) ≡ renamed_state r (fresh_behind r fresh h) (state_after start h)
    state_behind [] known may = refl
    state_behind (a ∷ h) known may = grind (arith, after_is, renamable_behind, state_behind h known.0 may.0)

    allowed_behind : (h : List Action) → InstallsNamed r h → AllowsAll start h → AllowsAll (renamed_state r fresh start) (map (renamed r) h)
    allowed_behind [] known may = tt
    allowed_behind (a ∷ h) known may = grind (arith, state_behind, allows, renamable_behind, allowed_behind h known.0 may.0)

-- the file that a pass holds
held_after_same : (r : Renaming) (held : Option File) (a : Action)
    → held_after (renamed_found r held) (renamed r a) ≡ renamed_found r (held_after held a)
held_after_same r held a = grind arith

if_renamed : (r : Renaming) (b : Bool) (x y : Option File) {x' y' : Option File} → x' ≡ renamed_found r x → y' ≡ renamed_found r y
    → (if b then x' else y') ≡ renamed_found r (if b then x else y)
if_renamed r b x y on off = grind arith

held_same_by : (r : Renaming) (h : List Event) (pass : ℕ) → held_by (map (renamed_event r) h) pass ≡ renamed_found r (held_by h pass)
held_same_by r [] pass = refl
held_same_by r (e ∷ h) pass = grind (arith, if_renamed, held_after_same, held_same_by r h pass)

releases_its_own : (r : Renaming) (held : Option File) {now : Option File} (a : Action) → now ≡ renamed_found r held → ReleasesItsOwn held a
    → ReleasesItsOwn now (renamed r a)
releases_its_own r held a same own = grind arith

all_release : (r : Renaming) (h : List Event) → AllReleaseTheirOwn h → AllReleaseTheirOwn (map (renamed_event r) h)
all_release r [] own = tt
all_release r (e ∷ h) own = grind (arith, releases_its_own, held_same_by, all_release r h own.0)

-- the actions of a history
actions_renamed : (r : Renaming) (h : List Event) → map action_of (map (renamed_event r) h) ≡ map (renamed r) (map action_of h)
actions_renamed r [] = refl
actions_renamed r (e ∷ h) = ap (λ (l : List Action). renamed r e.action ∷ l) (actions_renamed r h)

pub legal_renamed : (r : Renaming) → IsOneToOne r → {fresh : ℕ → Bool} {start end : State} {h : List Event} → IsRenamable r fresh start
    → InstallsNamed r (map action_of h) → IsLegal start h end
    → (left : ℕ → Bool) × IsLegal (renamed_state r fresh start) (map (renamed_event r) h) (renamed_state r left end) × IsRenamable r left end
legal_renamed r one {fresh} {start} {h} k known legal =
    let actions = map action_of h in let may = legal.leads.0 in
    grind (arith, actions_renamed, allowed_behind, state_after, state_behind, all_release r h legal.releases, legal.leads.1, renamable_behind r one k actions known may)
