-- Numbers and holds along a history.
use Rattle.fx_plain.proofs.Words.{◌≡◌, suc, ℕ, ◌+◌, ◌<◌, ◌≤◌, Bool, true, false, List, [], ◌∷◌, map, length, refl, sym, ap, ◌∙◌, Option, Some, None}
use Rattle.fx_plain.proofs.Words.{arith, inl, inr, length-append, cases_lt, State, Allows, after, changed_at, with_removed, state_after, AllowsAll}
use Rattle.fx_plain.proofs.Words.{action_of, File, Event, Action, Look, Put, Clear, Take, Allocate, Close, ◌≢◌, ◌==◌, ◌++◌, subst, if◌then◌else◌}
use Rattle.fx_plain.proofs.Words.{Release, IsStart, closed_of, closes_of, released_by, releases_in}
use Rattle.fx_plain.proofs.Cells.{named, sum_below, changed_below, sum_grows, sum_zero, sum_one, by_equality, named_same, same_below}
use Rattle.fx_plain.specs.History.{held_after, held_by, ReleasesItsOwn, AllReleaseTheirOwn, part_of_pass}

abbrev pub bit : Bool → ℕ
bit true = 1
bit false = 0

abbrev pub present : Option File → ℕ
present None = 0
present (Some f) = 1

-- at how many slots the number is
abbrev pub placed : ℕ → (ℕ → Option File) → ℕ → ℕ
placed n at size = sum_below (λ slot. named n (at slot)) size

-- the number of times that the number is fresh, at a slot, or removed
abbrev pub tally : ℕ → State → ℕ
tally n st = bit (st.fresh n) + placed n st.at st.size + present (st.removed n)

placed_change : (n : ℕ) (at : ℕ → Option File) {slot size : ℕ} (x : Option File) → slot < size
    → placed n (changed_at at slot x) size + named n (at slot) ≡ placed n at size + named n x
placed_change n at {slot} {size} x lt =
    let e : placed n (changed_at at slot x) size + named n (at slot) ≡ placed n at size + named n (changed_at at slot x slot) =
    changed_below (λ s. named n (at s)) (λ s. named n (changed_at at slot x s)) (λ k apart. grind arith) size lt in
    e ∙ ap (λ (y : Option File). placed n at size + named n y) (grind arith)

pub placed_one : (n : ℕ) (at : ℕ → Option File) (slot size : ℕ) → slot < size → named n (at slot) ≤ placed n at size
placed_one n at slot size lt = let more = sum_grows (λ s. named n (at s)) (suc slot) size lt in omega arith

-- a fresh number is used up
fresh_change : (fresh : ℕ → Bool) (f : File) (n : ℕ) → fresh f.number ≡ true
    → bit (changed_at fresh f.number false n) + named n (Some f) ≡ bit (fresh n)
fresh_change fresh f n is = grind arith

-- a slot gets another file, or none, and the file that was there is removed
moved : (st : State) (n : ℕ) {slot : ℕ} (new : Option File) {found : Option File} (fresh : ℕ → Bool)
    → bit (fresh n) + named n new ≡ bit (st.fresh n) → slot < st.size → found ≡ st.at slot → tally n st ≤ 1
    → bit (fresh n) + placed n (changed_at st.at slot new) st.size + present (with_removed st.removed found n) + 0 ≡ tally n st
moved st n {slot} new {found} fresh used lt is few = grind (arith, placed_change)

-- a step moves a number on, and counts each close
pub tally_after : (st : State) (a : Action) (n : ℕ) → Allows st a → tally n st ≤ 1 → tally n (after st a) + length (closed_of n a) ≡ tally n st
tally_after st (Put slot f replaced) n may few =
    moved st n (Some f) (changed_at st.fresh f.number false) (fresh_change st.fresh f n may.1) may.0 may.2 few
tally_after st (Clear slot found) n may few = moved st n None st.fresh (omega arith) may.0 may.1 few
tally_after st (Take slot found) n may few = moved st n None st.fresh (omega arith) may.0 may.1 few
tally_after st (Allocate slot f) n may few =
    moved st n (Some f) (changed_at st.fresh f.number false) (fresh_change st.fresh f n may.3) may.0 (sym may.2) few
tally_after st (Close f) n may few = grind arith
tally_after st (Look slot None) n may few = omega arith
tally_after st _ n may few = omega arith

pub tally_all : (start : State) (h : List Event) (n : ℕ) → tally n start ≤ 1 → AllowsAll start (map action_of h)
    → tally n (state_after start (map action_of h)) + length (closes_of n h) ≡ tally n start
tally_all start [] n few may = omega arith
tally_all start (e ∷ h) n few may = grind (arith, tally_after, length-append, tally_all start h n few may.0)

-- a fresh number is at no slot, at the start
none_placed : {st : State} (n : ℕ) → IsStart st → st.fresh n ≡ true → placed n st.at st.size ≡ 0
none_placed {st} n start fresh = grind (arith, sum_zero)

-- at the start each number is once in a table at most
pub tally_start : (st : State) (n : ℕ) → IsStart st → tally n st ≤ 1
tally_start st n start = grind (arith, sum_one, none_placed)

pub closed_at_most_once : (start : State) (h : List Event) (n : ℕ) → IsStart start → AllowsAll start (map action_of h) → length (closes_of n h) ≤ 1
closed_at_most_once start h n begins may = let few = tally_start start n begins in let all = tally_all start h n few may in omega arith

-- While a pass releases nothing, the file that it looked up keeps a hold.

-- the holds of a number that an action adds, and those that it ends
abbrev taken : ℕ → Action → ℕ
taken n (Look slot found) = named n found
taken n _ = 0

abbrev given : ℕ → Action → ℕ
given n (Release f) = named n (Some f)
given n _ = 0

holds_after : (st : State) (a : Action) (n : ℕ) → Allows st a → (after st a).holds n + given n a ≡ st.holds n + taken n a
holds_after st a n may = grind arith

-- passes claim no more holds than there are
pub record IsCovered (claims : ℕ → ℕ) (holds : ℕ) : Type 0 where
  pub below : (bound : ℕ) → sum_below claims bound ≤ holds

-- one pass claims more or less
covered_after : {claims : ℕ → ℕ} (others : ℕ → ℕ) (q : ℕ) {holds : ℕ} (left up down : ℕ) → ((k : ℕ) → k ≢ q → others k ≡ claims k)
    → others q + down ≤ claims q + up → left + down ≡ holds + up → IsCovered claims holds → IsCovered others left
covered_after {claims} others q {holds} left up down off here now cover = record {
  below = λ bound. elim (cases_lt q bound) [
    | inl lt ↦ let e = changed_below claims others off bound lt in let le = cover.below bound in omega arith
    | inr ge ↦ let e = same_below claims others off bound ge in let more = sum_grows claims bound q ge in
        let le : claims q + sum_below claims q ≤ holds = cover.below (suc q) in omega arith
  ];
}

-- the holds that a pass has of a number
abbrev holding : ℕ → List Event → ℕ → ℕ
holding n h pass = named n (held_by h pass)

other_holds : (n : ℕ) (e : Event) (h : List Event) (k : ℕ) → k ≢ e.pass → holding n (e ∷ h) k ≡ holding n h k
other_holds n e h k apart = grind arith

own_held : (e : Event) (h : List Event) → held_by (e ∷ h) e.pass ≡ held_after (held_by h e.pass) e.action
own_held e h = grind arith

own_change : (n : ℕ) (held : Option File) (a : Action) → ReleasesItsOwn held a → named n (held_after held a) + given n a ≤ named n held + taken n a
own_change n held a own = grind (arith, named)

-- the passes have at most as many holds as the state counts
pub covered : (start : State) (h : List Event) (n : ℕ) → AllowsAll start (map action_of h) → AllReleaseTheirOwn h
    → IsCovered (holding n h) ((state_after start (map action_of h)).holds n)
covered start [] n may own = record { below = λ bound. let e = sum_zero (holding n []) bound (λ _ _. refl) in omega arith }
covered start (e ∷ h) n may own =
    let st = state_after start (map action_of h) in
    let change : holding n (e ∷ h) e.pass + given n e.action ≤ holding n h e.pass + taken n e.action =
    rw (own_held e h) (own_change n (held_by h e.pass) e.action own.1) in
    covered_after (holding n (e ∷ h)) e.pass ((after st e.action).holds n) (taken n e.action) (given n e.action)
    (other_holds n e h) change (holds_after st e.action n may.1) (covered start h n may.0 own.0)

given_none : (n : ℕ) (a : Action) → released_by a ≡ [] → given n a ≡ 0
given_none n a is = grind arith

both_empty : (xs ys : List File) → xs ++ ys ≡ [] → (xs ≡ []) × (ys ≡ [])
both_empty [] ys is = (refl, is)
both_empty (x ∷ xs) ys is = cc

-- if a pass releases nothing, it released nothing before, and its last step isn't a release
kept_on : (p : ℕ) (e : Event) (since : List Event) → releases_in (part_of_pass p (e ∷ since)) ≡ []
    → (releases_in (part_of_pass p since) ≡ []) × (e.pass ≡ p → released_by e.action ≡ [])
kept_on p e since = grind (arith, both_empty)

-- the holds that passes have of a number, if one of them keeps a hold of it
abbrev keeping : ℕ → ℕ → List Event → ℕ → ℕ
keeping p n h k = if k == p then 1 else holding n h k

-- a number with a hold isn't closed
no_close : (st : State) (a : Action) (n : ℕ) → Allows st a → 0 < st.holds n → closed_of n a ≡ []
no_close st a n may held = grind arith

-- the hold that a pass keeps belongs to no other pass, and no file of the number is closed
kept : (start : State) (h since : List Event) (p n : ℕ) → IsCovered (keeping p n h) ((state_after start (map action_of h)).holds n)
    → AllowsAll start (map action_of (since ++ h)) → AllReleaseTheirOwn (since ++ h) → releases_in (part_of_pass p since) ≡ []
    → IsCovered (keeping p n (since ++ h)) ((state_after start (map action_of (since ++ h))).holds n) × (closes_of n since ≡ [])
kept start h [] p n cover may own is = (cover, refl)
kept start h (e ∷ since) p n cover may own is =
    let all = since ++ h in let st = state_after start (map action_of all) in let (before, now) = kept_on p e since is in
    let (held, earlier) = kept start h since p n cover may.0 own.0 before in
    let change : keeping p n (e ∷ all) e.pass + given n e.action ≤ keeping p n all e.pass + taken n e.action =
    grind (arith, by_equality, given_none, own_held, own_change) in
    let mine : keeping p n all p ≡ 1 = grind arith in let some_hold = held.below (suc p) in
    let here = no_close st e.action n may.1 (omega arith) in (
      covered_after (keeping p n (e ∷ all)) e.pass ((after st e.action).holds n) (taken n e.action)
          (given n e.action) (λ k apart. rw (other_holds n e all k apart) refl) change (holds_after st e.action n may.1) held,
      rw (earlier, here) refl,
    )

-- after a look-up that found a file its pass has a hold
looked : (before : List Event) (look : Event) {slot : ℕ} {f : File} {holds : ℕ} → look.action ≡ Look slot (Some f)
    → IsCovered (holding f.number (look ∷ before)) holds → IsCovered (keeping look.pass f.number (look ∷ before)) holds
looked before look {f} {holds} is cover =
    let n = f.number in let h = look ∷ before in
    let found : held_by h look.pass ≡ Some f = own_held look before ∙ ap (held_after (held_by before look.pass)) is in
    let one : holding n h look.pass ≡ 1 = ap (named n) found ∙ named_same f n refl in
    let agree : (k : ℕ) → holding n h k ≡ keeping look.pass n h k =
    λ k. by_equality k look.pass (λ b. holding n h k ≡ (if b then 1 else holding n h k)) (λ same. ap (holding n h) same ∙ one) (λ _. refl) in
    subst (λ (claims : ℕ → ℕ). IsCovered claims holds) (λ i k. agree k i) cover

allowed_before : (start : State) (h others : List Event) → AllowsAll start (map action_of (others ++ h)) → AllowsAll start (map action_of h)
allowed_before start h [] may = may
allowed_before start h (e ∷ others) may = allowed_before start h others may.0

released_before : (h others : List Event) → AllReleaseTheirOwn (others ++ h) → AllReleaseTheirOwn h
released_before h [] own = own
released_before h (e ∷ others) own = released_before h others own.0

pub no_close_while_held : (start : State) (before since others : List Event) (look : Event) (slot : ℕ) (f : File)
    → AllowsAll start (map action_of (others ++ (since ++ (look ∷ before)))) → AllReleaseTheirOwn (others ++ (since ++ (look ∷ before)))
    → look.action ≡ Look slot (Some f) → releases_in (part_of_pass look.pass since) ≡ [] → closes_of f.number since ≡ []
no_close_while_held start before since others look slot f may_all own_all is none_given =
    let h = look ∷ before in let may = allowed_before start (since ++ h) others may_all in
    let own = released_before (since ++ h) others own_all in
    let cover = covered start h f.number (allowed_before start h since may) (released_before h since own) in
    (kept start h since look.pass f.number (looked before look is cover) may own none_given).1
