-- A file that was removed is at no slot again, so a key ends once. A call that is done ended it.
use Rattle.fx_server.proofs.{◌≡◌, ◌≢◌, ◌⊎◌, inl, inr, ℕ, ◌<◌, ◌++◌, List, [], ◌∷◌, map, false, Some, None, sym, ap, ◌∙◌, arith, AllowsAll, Look}
use Rattle.fx_server.proofs.{action_of, state_after, IsInstalled, IsStart, installed_by, State, Allows, after, Action, Event, File, KeysEndOnce}
use Rattle.fx_server.proofs.{file_leaving, ℤ, KeyFault, IsDone, fault_code, IsRefused, IsRefusedAt, TableWorker, Ok, refl, ◌▷◌, ◌▷▷◌, Put, Release}
use Rattle.fx_server.proofs.{Take, opening_of, Key, view_of, PassView, event_of, Retired, IsKeyOf, RemovesByOne, ReplacesByOne, DoneRemovalsEndKeys}
use Rattle.fx_server.proofs.{HasEnded, DoneReplacementsEndKeys, RetiresAs, its_opening, its_pass, its_start, CoreOutcome, looked_none, retired_none}

-- each file at a slot has a number that no other slot's file has, and that no new file gets
pub record AreApart (st : State) : Type 0 where
  distinct : (slot other : ℕ) (f g : File) → slot < st.size → other < st.size → st.at slot ≡ Some f → st.at other ≡ Some g → f.number ≡ g.number → slot ≡ other
  used : (slot : ℕ) (f : File) → slot < st.size → st.at slot ≡ Some f → st.fresh f.number ≡ false

-- no slot has a file of the number, and no new file gets it
pub record IsPast (n : ℕ) (st : State) : Type 0 where
  used : st.fresh n ≡ false
  nowhere : (slot : ℕ) (f : File) → slot < st.size → st.at slot ≡ Some f → f.number ≢ n

apart_after : (st : State) (a : Action) → Allows st a → AreApart st → AreApart (after st a)
apart_after st a may apart = grind arith

past_after : (n : ℕ) (st : State) (a : Action) → Allows st a → IsPast n st → IsPast n (after st a)
past_after n st a may past = grind arith

past_all : (n : ℕ) (start : State) (h more : List Event) → AllowsAll start (map action_of (more ++ h)) → IsPast n (state_after start (map action_of h))
    → IsPast n (state_after start (map action_of (more ++ h)))
past_all n start h [] may past = past
past_all n start h (e ∷ more) may past = past_after n (state_after start (map action_of (more ++ h))) e.action may.1 (past_all n start h more may.0 past)

apart_all : (start : State) (h : List Event) → IsStart start → AllowsAll start (map action_of h) → AreApart (state_after start (map action_of h))
apart_all start [] begins may = record { distinct = begins.distinct; used = begins.used }
apart_all start (e ∷ h) begins may = apart_after (state_after start (map action_of h)) e.action may.1 (apart_all start h begins may.0)

earlier_allowed : (start : State) (h more : List Event) → AllowsAll start (map action_of (more ++ h)) → AllowsAll start (map action_of h)
earlier_allowed start h [] may = may
earlier_allowed start h (e ∷ more) may = earlier_allowed start h more may.0

-- the file that an action removes was at a slot
record WasAt (st : State) (f : File) : Type 0 where
  slot : ℕ
  low : slot < st.size
  there : st.at slot ≡ Some f

was_at : (st : State) (a : Action) (f : File) → Allows st a → file_leaving a ≡ Some f → WasAt st f
was_at st a f may is = grind arith

-- its number is past from then on
past_now : (st : State) (a : Action) (f : File) → Allows st a → file_leaving a ≡ Some f → AreApart st → IsPast f.number (after st a)
past_now st (Look slot None) f may is apart = cc
past_now st _ f may is apart = record { used = grind (arith, apart.used); nowhere = λ s g low at_s same. grind (arith, apart.distinct, apart.used) }

-- a file at a slot was there before, or is installed
installed_step : (st : State) (a : Action) (slot : ℕ) (f : File) → (after st a).at slot ≡ Some f → (st.at slot ≡ Some f) ⊎ (installed_by a ≡ Some f)
installed_step st a slot f is = grind arith

-- if the table was opened empty, it was installed
pub installed_at : (start : State) (h : List Event) (slot : ℕ) (f : File) → ((s : ℕ) → start.at s ≡ None) → AllowsAll start (map action_of h)
    → (state_after start (map action_of h)).at slot ≡ Some f → IsInstalled h f
installed_at start [] slot f empty may is = let none : None ≡ Some f = sym (empty slot) ∙ is in cc
installed_at start (e ∷ h) slot f empty may is = elim (installed_step (state_after start (map action_of h)) e.action slot f is) [
  | inl was ↦ inl (installed_at start h slot f empty may.0 was)
  | inr new ↦ inr new
]

installed_more : (h more : List Event) (f : File) → IsInstalled h f → IsInstalled (more ++ h) f
installed_more h [] f is = is
installed_more h (e ∷ more) f is = inl (installed_more h more f is)

pub keys_end_once : KeysEndOnce
keys_end_once key start end before between first second begins empty legal own one two =
    let may = legal.leads.0 in
    let rest : AllowsAll start (map action_of (between ++ first ∷ before)) = may.0 in
    let one_more : AllowsAll start (map action_of (first ∷ before)) = earlier_allowed start (first ∷ before) between rest in
    let f = one.file in let g = two.file in
    let st = state_after start (map action_of before) in
    let then = state_after start (map action_of (between ++ first ∷ before)) in
    let was = was_at st first.action f one_more.1 one.removes in
    let is = was_at then second.action g may.1 two.removes in
    let past : IsPast f.number then =
    past_all f.number start (first ∷ before) between rest (past_now st first.action f one_more.1 one.removes (apart_all start before begins one_more.0)) in
    let f_in : IsInstalled (second ∷ (between ++ first ∷ before)) f =
    inl (installed_more (first ∷ before) between f (inl (installed_at start before was.slot f empty one_more.0 was.there))) in
    let g_in : IsInstalled (second ∷ (between ++ first ∷ before)) g = inl (installed_at start (between ++ first ∷ before) is.slot g empty rest is.there) in
    let same : f ≡ g = own f g f_in g_in (λ none. one.its_key.0 (sym one.its_key.1 ∙ none)) (one.its_key.1 ∙ sym two.its_key.1) in
    past.nowhere is.slot g is.low is.there (sym (ap (λ (it : File). it.number) same))

-- the numbers that a call of C's returns only if it is not done
pub no_fault : (why : KeyFault) (answer : ℤ) → answer ≡ fault_code why → IsDone answer → ⊥
no_fault why answer is done = grind arith

pub no_refusal : (w : TableWorker) (answer : ℤ) → IsRefused w answer → IsDone answer → ⊥
no_refusal w answer h3 done = grind arith

pub no_refusal_at : (w : TableWorker) (slot : ℕ) (answer : ℤ) → IsRefusedAt w slot answer → IsDone answer → ⊥
no_refusal_at w slot answer h4 done = grind (arith, no_refusal)

-- an event of the worker's pass that ends the key, after some others
ended : (w w' : TableWorker) (key : Key) (e : Event) (earlier : List Event) (f : File) (between : PassView) (retired : Retired) (answer : ℤ) (tag : ℕ)
    → e.pass ≡ (its_pass w).number → file_leaving e.action ≡ Some f → IsKeyOf key f → between.own ≡ (its_pass w).own ▷▷ earlier ▷ e
    → RetiresAs (its_opening w) between retired answer tag (its_pass w') → HasEnded key w w'
ended w w' key e earlier f between retired answer tag mine removes its_key made retires =
    let more = (retired_none (its_opening w) between retired retires.file (its_pass w') retires.retires).grows in grind arith

removal_ends : (w w' : TableWorker) (key : Key) (answer : ℤ) (out : CoreOutcome) → RemovesByOne w key answer out w' → HasEnded key w w'
removal_ends w w' key answer out it =
    let r = it.takes.takes in
    let look = (looked_none (opening_of (its_start w)) (its_pass w) key.slot (Ok r.hold) it.takes.freed r.between r.held.looked).grows in
    ended w w' key (event_of r.between (Take key.slot (Some r.file))) (look.since ▷ event_of r.between (Release r.file)) r.file (view_of it.between) it.retired answer out.tag
    look.number refl r.its_key (r.adds.own ∙ ap (λ (own : List Event). own ▷ event_of r.between (Release r.file) ▷ event_of r.between (Take key.slot (Some r.file))) look.own) it.retires

replacement_ends : (w w' : TableWorker) (key : Key) (tag : ℕ) (answer : ℤ) (out : CoreOutcome) → ReplacesByOne w key tag answer out w' → HasEnded key w w'
replacement_ends w w' key tag answer out it =
    let r = it.puts.puts in
    let look = (looked_none (opening_of (its_start w)) (its_pass w) key.slot (Ok r.hold) it.puts.freed r.between r.held.looked).grows in
    ended w w' key (event_of r.between (Put key.slot r.new (Some r.old))) (look.since ▷ event_of r.between (Release r.old)) r.old (view_of it.between) it.retired answer out.tag
    look.number refl r.its_key (r.adds.own ∙ ap (λ (own : List Event). own ▷ event_of r.between (Release r.old) ▷ event_of r.between (Put key.slot r.new (Some r.old))) look.own) it.retires

pub done_removals : DoneRemovalsEndKeys
done_removals w w' key answer out done is = elim done.removed [
  | inl it ↦ removal_ends w w' key answer out it
  | inr (inl left) ↦ absurd (no_fault left.why answer left.its_answer is)
  | inr (inr refused) ↦ absurd (no_refusal w answer refused.2 is)
]

pub done_replacements : DoneReplacementsEndKeys
done_replacements w w' key tag answer out done is = elim done.placed [
  | inl it ↦ replacement_ends w w' key tag answer out it
  | inr (inl kept) ↦ absurd (no_fault kept.why answer kept.its_answer is)
  | inr (inr refused) ↦ absurd (no_refusal w answer refused.2 is)
]
