-- Legal histories, and the frame of a step of one seat.
use Rattle.fx_counted.proofs.Words.{◌≡◌, ◌≢◌, ℕ, ◌+◌, ◌≤◌, List, [], ◌∷◌, sym, refl, ap, ◌∙◌, arith, Some, None, dite, ℕ_discrete, held_by, Event}
use Rattle.fx_counted.proofs.Words.{Action, Look, start_of, range_of, looks, all_looks, opening_of, slots_of, state_after_all, Start, ReleasesItsOwn}
use Rattle.fx_counted.proofs.Words.{IsLegal, looks_after, look_in, map, action_of, next_in, end_in, placing, ◌<◌, Contains, sum_by, set, subst, some}
use Rattle.fx_counted.proofs.Words.{some-injective, get_elem?, set_here, set_else, File, numbered, sum_set, Does, OwnerAgrees, WorkAgrees, ViewAgrees}
use Rattle.fx_counted.proofs.Words.{Phase, spare, owner, file_in, Log, View, Work, Placing, Holding, Retiring, Emptying, Between, stands_at, one_if}
use Rattle.fx_counted.proofs.Words.{Option, Closed, State, SlotAgrees, Home, NodeAgrees, full_in, ControlCounts, DrawsCount, ended_of, unborn, seated}
use Rattle.fx_counted.proofs.Words.{IsGone, times, Grows, seats, total_same}
use Rattle.fx_plain.specs.Step.{Allows}
use Rattle.fx_plain.proofs.Leading.{same_shape as shape_of_state}

abbrev pub IsHistory : Start → List Event → Type 0
IsHistory k h = IsLegal (start_of (opening_of k)) h (state_after_all k h)

pub legal_more : (k : Start) {h : List Event} {e : Event} → IsHistory k h → Allows (state_after_all k h) e.action
    → ReleasesItsOwn (held_by h e.pass) e.action → IsHistory k (e ∷ h)
legal_more k legal may own = record { leads = ((legal.leads.0, may), refl); releases = (legal.releases, own) }

-- no history changes the size or the range
pub same_shape : (k : Start) (h : List Event) → ((state_after_all k h).size ≡ slots_of k) × ((state_after_all k h).range ≡ range_of (opening_of k))
same_shape k h = shape_of_state (start_of (opening_of k)) (map action_of h)

looks_step : {f : ℕ → ℕ} {all : ℕ} → ((n : ℕ) → f n ≤ all) → (a : Action) (n : ℕ) → looks_after f a n ≤ all + look_in a
looks_step few (Look slot None) n = let m = few n in omega arith
looks_step {f} few (Look slot (Some g)) n = grind arith
looks_step few _ n = let m = few n in omega arith

-- the looks of one file are at most all looks
pub looks_few : (h : List Event) (n : ℕ) → looks h n ≤ all_looks h
looks_few [] n = omega arith
looks_few (e ∷ h) n = looks_step (looks_few h) e.action n

-- The frame of a step of one seat: other seats, slots, numbers, the control word and the draw word
-- stay. the number that a pass alone works with, plus 1, or 0
abbrev pub busy : Work → ℕ
busy (Between (Retiring f takes)) = f.number + 1
busy (Placing number) = number + 1
busy (Emptying number) = number + 1
busy _ = 0

-- the phases that belong to another seat, and the spare numbers of another pass, stay
pub record Stays (id p : ℕ) (phase phase' : ℕ → Phase) : Type 0 where
  pub owned : (n : ℕ) → owner (phase n) ≢ 0 → owner (phase n) ≢ id + 1 → phase' n ≡ phase n
  pub spared : (n q : ℕ) → phase n ≡ spare q → q ≢ p → phase' n ≡ spare q

pub stays_same : (id p : ℕ) (phase : ℕ → Phase) → Stays id p phase phase
stays_same id p phase = record { owned = λ n a b. refl; spared = λ n q is other. is }

module _ (id p j : ℕ) (other : j ≢ id) (phase phase' : ℕ → Phase) (stays : Stays id p phase phase') where
  work_stays : (k : Start) (d : Work) → ((f : File) → d ≡ Between (Holding f)
      → file_in (phase' f.number) ≡ file_in (phase f.number)) → WorkAgrees k phase j d → WorkAgrees k phase' j d
  work_stays k d keeps o = grind arith

  -- another view, after events of a pass that it doesn't have
  pub view_stays : {k : Start} {h h' : List Event} → Grows p h h' → {u : View} → ((y : Log) → Contains u.logs y → y.number ≢ p)
      → ((f : File) → u.work ≡ Between (Holding f) → file_in (phase' f.number) ≡ file_in (phase f.number))
      → ViewAgrees k h phase j u → ViewAgrees k h' phase' j u
  view_stays {k} g {u} not_its keeps ok = record {
    logs = λ y e. let o = ok.logs y e in let n : p ≢ y.number = λ same. not_its y e (sym same) in
        let spares : (m : ℕ) → next_in k y + placing u.work ≤ m → m < end_in k y → phase' m ≡ spare y.number =
        λ m a b. stays.spared m y.number (o.spares m a b) (λ same. n (sym same)) in grind (arith, spare);
    work = work_stays k u.work keeps ok.work;
  }

pub does_now : (views : List View) (id : ℕ) (v w : View) (d : Work) → get_elem? views id ≡ some v → w.work ≡ d → Does (set views id w) id d
does_now views id v w d here is = (w, set_here views id w (stands_at views id v here).0, is)

-- the pass of a number is known in other views too, if what is done with it is
pub owner_map : (views views' : List View) (n : ℕ)
    → ((j : ℕ) (d : Work) → busy d ≡ n + 1 → Does views j d → Does views' j d) → (ph : Phase) → OwnerAgrees views n ph
    → OwnerAgrees views' n ph
owner_map views views' n f ph o = grind arith

module _ (views : List View) (id : ℕ) (v w : View) (here : get_elem? views id ≡ some v) where
  does_else : {j : ℕ} {d : Work} → j ≢ id → Does views j d → Does (set views id w) j d
  does_else {j} other o = (o.0, set_else views id j w other ∙ o.1, o.2)

  work_of : {j : ℕ} {d : Work} → j ≡ id → Does views j d → v.work ≡ d
  work_of same o = ap (λ (u : View). u.work) (some-injective v o.0 (sym here ∙ (ap (get_elem? views) (sym same) ∙ o.1))) ∙ o.2

  -- a number that the pass was not busy with
  pub owner_stays : (n : ℕ) → busy v.work ≢ n + 1 → (ph : Phase) → OwnerAgrees views n ph → OwnerAgrees (set views id w) n ph
  owner_stays n free = owner_map views (set views id w) n (λ j d is o. does_else (λ same. free (ap busy (work_of same o) ∙ is)) o)

  -- any number, after a step that leaves the pass at its work
  pub owner_same : w.work ≡ v.work → (n : ℕ) (ph : Phase) → OwnerAgrees views n ph → OwnerAgrees (set views id w) n ph
  owner_same same n = owner_map views (set views id w) n (λ j d is o. dite (ℕ_discrete j id)
      (λ (e : j ≡ id). subst (λ (i : ℕ). Does (set views id w) i d) (sym e) (does_now views id v w d here (same ∙ work_of e o)))
      (λ (e : j ≢ id). does_else e o))

-- The frame of a step: slots, numbers, the control word and the draw word stay.
module _ (k : Start) (h h' : List Event) (phase phase' : ℕ → Phase) (slot : ℕ) where
  abbrev pub SameFile : Type 0
  SameFile = (f : File) → (state_after_all k h).at slot ≡ Some f → phase f.number ≡ seated slot f.identity
      → (looks h' f.number ≡ looks h f.number) × (phase' f.number ≡ phase f.number)

-- a slot whose word and file stay
pub slot_same : {k : Start} {h h' : List Event} {phase phase' : ℕ → Phase} {slot word word' : ℕ} → word' ≡ word
    → (state_after_all k h').at slot ≡ (state_after_all k h).at slot → all_looks h ≤ all_looks h' → SameFile k h h' phase phase' slot
    → SlotAgrees k h phase slot word → SlotAgrees k h' phase' slot word'
slot_same {k} {h} {h'} {phase} {phase'} {slot} {word} same_word same_file more same so = grind arith

-- a number whose state has not changed
module _ (st st' : State) (n l l' word word' : ℕ) (home home' : Home) (fresh : st'.fresh n ≡ st.fresh n) (removed : st'.removed n ≡ st.removed n)
    (holds : st'.holds n ≡ st.holds n) (looked : l' ≡ l) (worded : word' ≡ word) (homed : home' ≡ home) (sized : st'.size ≡ st.size) where
  gone_same : {lies : Home} → IsGone st n l word home lies → IsGone st' n l' word' home' lies
  gone_same o = assumption (worded ∙ o.counts, homed ∙ o.at_home, holds ∙ o.no_holds, removed ∙ o.not_removed)

  pub node_same : (ph : Phase) → ((s : ℕ) (f : Closed) → ph ≡ seated s f → st.at s ≡ Some (numbered n f) → st'.at s ≡ st.at s)
      → NodeAgrees st n l word home ph → NodeAgrees st' n l' word' home' ph
  node_same ph h2 o = grind (arith, gone_same)

module _ (views : List View) (id : ℕ) (v w : View) (here : get_elem? views id ≡ some v) where
  -- the control word, where no slot of the range and no change does
  pub control_same : {at at' : ℕ → Option File} {range : ℕ × ℕ} {word word' : ℕ}
      → full_in at' range.0 range.1 ≡ full_in at range.0 range.1 → word' ≡ word → w.change ≡ v.change
      → ControlCounts at range views word → ControlCounts at' range (set views id w) word'
  control_same full same change ok = grind (arith, sum_set)

  -- the draw word, where no chain was drawn
  pub draws_same : {chains numbers : ℕ} {phase phase' : ℕ → Phase} {word word' : ℕ} {x y : Log} → v.logs ≡ x ∷ []
      → w.logs ≡ y ∷ [] → y.drawn ≡ x.drawn → y.no_chains_left ≡ x.no_chains_left → word' ≡ word
      → ((n : ℕ) → phase n ≡ unborn → phase' n ≡ unborn) → DrawsCount chains numbers phase views word
      → DrawsCount chains numbers phase' (set views id w) word'
  draws_same one one' drawn told same keeps ok =
      let t : sum_by ended_of (set views id w) ≡ sum_by ended_of views =
      total_same seats.logs (λ z. one_if z.no_chains_left) views id w here one one' (ap one_if told) in
      record {
        given = ok.given;
        few = ok.few;
        each = λ c. total_same seats.logs (λ z. times c z.drawn) views id w here one one' (ap (times c) drawn) ∙ ok.each c;
        counts = let c = ok.counts in omega arith;
        all = λ some. ok.all (omega arith);
        unused = λ n low high. keeps n (ok.unused n low high);
      }
