-- Each call of the plain table, as a turn.
use Rattle.fx_baton.proofs.Words.{◌≡◌, ◌≢◌, ℕ, ◌+◌, ◌-◌, ◌<◌, ◌≤◌, Bool, true, false, cond, List, [], ◌∷◌, map, sym, refl, ap, ◌∙◌, subst, arith, eqb}
use Rattle.fx_baton.proofs.Words.{◌⊎◌, inl, inr, Option, Some, None, not, ◌&&◌, if◌then◌else◌, State, Steps, changed_at}
use Rattle.fx_baton.proofs.Words.{with_removed, Contents, state_of, leaving, Leads, IsLegal, ReleasesItsOwn, held_by, close_of, ◌▷◌, ◌▷▷◌}
use Rattle.fx_baton.proofs.Words.{closed_by_release, closed_by_retirement, File, Event, Look, Release, Full, Close, pass_of_number, number_following}
use Rattle.fx_baton.proofs.Words.{HasFile, Idle, Holding, Retiring, legal_then, held_mine, one_author, Log, View, begin_of, file_held, file_in_hand}
use Rattle.fx_baton.proofs.Words.{holds_by, removals_by, leaving_count, Knows, IsTurn, held_after, Task, more_leaving, bit_here, one_more_at}
use Rattle.fx_baton.proofs.Words.{one_less_at, retiring, by, holds_now}
use Rattle.fx_plain.specs.declared.event.Action.{Action}
use Rattle.fx_plain.proofs.Cells.{changed_here, changed_else}
use Rattle.fx_table.proofs.FileLemmas.{none_file, stays_put, apart_from, leaving_file, removed_file, still_there, now_removed, not_closed}
use Rattle.fx_baton.proofs.StepsKeepRule.{flag_set, flag_back, one_true}

retires : (o : Option File) → ((n : ℕ) → holds_by n (retiring o 0) ≡ 0) × (file_held (retiring o 0) ≡ None) × (file_in_hand (retiring o 0) ≡ o)
retires o = grind arith

-- a file that comes out at a test
out_if : (b : Bool) {o : Option File} {g : File} → (if b then o else None) ≡ Some g → (b ≡ true) × (o ≡ Some g)
out_if b e = grind (arith, none_file)

fails : (a b : Bool) → (a && not b) ≡ true → b ≡ false
fails a b e = grind arith

module _ {v : View} {x : Log} {c : Contents} (d : Contents) (chain : ℕ) (known : Knows v x c x.front) where
  -- the events of these actions
  abbrev pub done : List Action → List Event
  done xs = map (by x.number chain) xs

  legal_one : {a : Action} → Steps (state_of c) a (state_of d) → ReleasesItsOwn (held_by x.front x.number) a
      → IsLegal (begin_of v.start) (x.front ▷▷ done (a ∷ [])) (state_of d)
  legal_one step own = grind (arith, legal_then)

  -- the file that the pass held before, and the leaving files, if no file was removed or retired
  held_so : {doing : Task} → v.doing ≡ doing → held_by x.front x.number ≡ file_held doing
  held_so is = known.held ∙ ap file_held is

  none_leaves : {doing : Task} → v.doing ≡ doing → leaving d ≡ leaving c → (n : ℕ)
      → leaving_count d n + removals_by n v.doing ≡ leaving_count c n + removals_by n doing
  none_leaves is leaves n = let a = ap (λ (z : ℕ → Bool). cond {A = ℕ} (z n) 1 0) leaves in let b = ap (removals_by n) is in omega arith

  -- after the close of a file without holds the others stay
  files_but : (f : File) {y : State} → state_of d ≡ y → y.holds f.number ≡ 0 → leaving d f.number ≡ false
      → ((g : File) → g.number ≢ f.number → HasFile (state_of c) g → HasFile y g)
      → (g : File) → HasFile (state_of c) g → (0 < (state_of d).holds g.number) ⊎ (leaving d g.number ≡ true) → HasFile y g
  files_but f is unheld retired kept g i stays = grind (arith, leaving)

  -- a turn uses none of another pass's fresh numbers, and none of its own from its next one on
  abbrev pub UsesOwn : (ℕ → Bool) → ℕ → Type 0
  UsesOwn fresh next = (number_following x.own ≤ next)
      × ((n : ℕ) → (pass_of_number v.start.passes n ≡ x.number → next ≤ n) → fresh n ≡ (state_of c).fresh n)

  -- a file that a turn installs has the pass's next number
  pub uses_next : {q : ℕ} → pass_of_number v.start.passes q ≡ x.number → number_following x.own ≤ q
      → UsesOwn (changed_at (state_of c).fresh q false) (q + 1)
  uses_next its from = grind (arith, changed_else)

  -- the obligations of a turn that leads to the state `y`
  turn : (xs : List Action) (doing : Task) (y : State) → state_of d ≡ y → UsesOwn y.fresh (number_following (x.own ▷▷ done xs))
      → IsLegal (begin_of v.start) (x.front ▷▷ done xs) (state_of d)
      → ((n : ℕ) → y.holds n + holds_by n v.doing ≡ (state_of c).holds n + holds_by n doing)
      → ((n : ℕ) → leaving_count d n + removals_by n v.doing ≡ leaving_count c n + removals_by n doing)
      → ((g : File) → HasFile (state_of c) g → (0 < (state_of d).holds g.number) ⊎ (leaving d g.number ≡ true) → HasFile y g)
      → held_by (x.front ▷▷ done xs) x.number ≡ file_held doing → ((g : File) → file_in_hand doing ≡ Some g → HasFile y g)
      → IsTurn v x c d (done xs) doing
  turn xs doing y is uses legal held leaves files now file = record {
    authors = one_author x.number chain xs;
    legal = legal;
    held = λ n. let a = ap (λ (z : State). z.holds n) is in let b = held n in omega arith;
    leaves = leaves;
    files = λ g i stays. subst (λ (z : State). HasFile z g) (sym is) (files g i stays);
    now = now;
    file = λ g e. subst (λ (z : State). HasFile z g) (sym is) (file g e);
    fresh = grind arith;
    others = λ n other e. ap (λ (z : State). z.fresh n) is ∙ (uses.1 n (λ its. absurd (other its)) ∙ e);
  }

  module _ (idle : v.doing ≡ Idle) where
    -- an action that changes nothing
    still_turn : {a : Action} → Steps (state_of c) a (state_of d) → state_of d ≡ state_of c → leaving d ≡ leaving c
        → ReleasesItsOwn (held_by x.front x.number) a → held_by (x.front ▷▷ done (a ∷ [])) x.number ≡ None
        → number_following (x.own ▷▷ done (a ∷ [])) ≡ number_following x.own → IsTurn v x c d (done (a ∷ [])) Idle
    still_turn {a} step same leaves own now unused = turn (a ∷ []) Idle (state_of c) same (omega arith, λ n _. refl) (legal_one step own)
        (λ n. let b = ap (holds_by n) idle in omega arith) (none_leaves idle leaves) (λ f i _. i) now (λ g e. absurd (none_file g e))

    -- no slot of the range was free
    pub full_turn : Steps (state_of c) Full (state_of d) → leaving d ≡ leaving c → IsTurn v x c d (done ([] ▷ Full)) Idle
    full_turn step leaves = still_turn step step.1 leaves tt (held_mine x.number chain Full x.front ∙ held_so idle) refl

    -- a look-up
    pub look_turn : {slot : ℕ} (found : Option File) → Steps (state_of c) (Look slot found) (state_of d) → leaving d ≡ leaving c
        → IsTurn v x c d (done ([] ▷ Look slot found)) (holds_now found)
    look_turn {slot} None step leaves = still_turn step step.1 leaves tt (held_mine x.number chain (Look slot None) x.front) refl
    look_turn {slot} (Some g) step leaves = turn ([] ▷ Look slot (Some g)) (Holding g) _ step.1 (omega arith, λ n _. refl) (legal_one step tt)
        (λ n. let b = ap (holds_by n) idle in let e = one_more_at (state_of c).holds g.number n in omega arith) (none_leaves idle leaves)
        (λ f i _. i) (held_mine x.number chain (Look slot (Some g)) x.front) (λ f e. inl (slot, sym step.0.1 ∙ e))

    -- the file that was at the slot, if any, is leaving now
    leaves_more : (slot : ℕ) (o : Option File) → o ≡ (state_of c).at slot → leaving d ≡ more_leaving (leaving c) o
        → (n : ℕ) → leaving_count d n + removals_by n v.doing ≡ leaving_count c n + removals_by n (retiring o 0)
    leaves_more slot None is leaves n = none_leaves idle leaves n
    leaves_more slot (Some f) is leaves n =
        let a = flag_set (leaving c) n leaves (stays_put c known.sound slot f (sym is)) in let b = ap (removals_by n) idle in omega arith

    -- a slot gets another file, or none, and the file that was there is removed
    pub slot_turn : (a : Action) (slot : ℕ) (new found : Option File) (fresh : ℕ → Bool) → Steps (state_of c) a (state_of d)
        → state_of d ≡ record (state_of c) {
          at = changed_at (state_of c).at slot new;
          fresh = fresh;
          removed = with_removed (state_of c).removed found;
        }
        → found ≡ (state_of c).at slot → leaving d ≡ more_leaving (leaving c) found → ReleasesItsOwn (held_by x.front x.number) a
        → ((h : Option File) → held_after h a ≡ h) → UsesOwn fresh (number_following (x.own ▷▷ done (a ∷ [])))
        → IsTurn v x c d (done (a ∷ [])) (retiring found 0)
    slot_turn a slot new found fresh step now is leaves own still uses =
        let apart = apart_from c known.sound slot found is in turn (a ∷ []) (retiring found 0) _ now uses (legal_one step own)
        (λ n. let b = ap (holds_by n) idle in let r = (retires found).0 n in omega arith) (leaves_more slot found is leaves)
        (λ f i _. still_there (state_of c) slot new found is apart f i)
        (held_mine x.number chain a x.front ∙ (still (held_by x.front x.number) ∙ (held_so idle ∙ sym (retires found).1)))
        (λ f e. inr (now_removed (state_of c) slot new found is apart f (sym (retires found).2 ∙ e)))

  -- the file that the pass holds is released
  module _ (f : File) (holds : v.doing ≡ Holding f) where
    one_less : (n : ℕ) → 0 < (state_of c).holds f.number
        → changed_at (state_of c).holds f.number ((state_of c).holds f.number - 1) n + holds_by n v.doing ≡ (state_of c).holds n + 0
    one_less n positive = grind (arith, one_less_at)

    -- a file that comes out at a release is the one that was held, and was retired
    pub file_released : {g : File} → closed_by_release c f.number ≡ Some g → (f ≡ g) × (leaving c g.number ≡ false)
    file_released e = grind (arith, out_if, leaving, removed_file, fails)

    pub letting_go_turn : (o : Option File) → closed_by_release c f.number ≡ o → Leads (state_of c) ([] ▷ Release f ▷▷ close_of o) (state_of d)
        → leaving d ≡ leaving c → IsTurn v x c d (done ([] ▷ Release f ▷▷ close_of o)) Idle
    letting_go_turn None e l leaves = turn ([] ▷ Release f) Idle _ l.1 (omega arith, λ n _. refl) (legal_one (l.0.1, l.1) (held_so holds))
        (λ n. one_less n l.0.1) (none_leaves holds leaves) (λ g i _. i) (held_mine x.number chain (Release f) x.front) (λ g e. absurd (none_file g e))
    letting_go_turn (Some g) e l leaves = turn ([] ▷ Release f ▷ Close g) Idle _ l.1 (omega arith, λ n _. refl)
        (grind (arith, legal_then, held_so))
        (λ n. one_less n l.0.0.1) (none_leaves holds leaves)
        (files_but g l.1 l.0.1.1 (ap (λ (z : ℕ → Bool). z g.number) leaves ∙ (file_released e).1) (λ h other i. not_closed (state_of c) g h other i))
        (held_mine x.number chain (Close g) (x.front ▷▷ done ([] ▷ Release f)) ∙ held_mine x.number chain (Release f) x.front)
        (λ h e. absurd (none_file h e))

  -- the file that the pass removed is retired
  module _ (f : File) (takes : ℕ) (removes : v.doing ≡ Retiring f takes) where
    there_still : HasFile (state_of c) f
    there_still = known.file f (ap file_in_hand removes)

    is_leaving : leaving c f.number ≡ true
    is_leaving = grind (arith, one_true, bit_here)

    leaves_less : leaving d ≡ changed_at (leaving c) f.number false → (n : ℕ) → leaving_count d n + removals_by n v.doing ≡ leaving_count c n + 0
    leaves_less leaves n =
        let a = flag_back (leaving c) n leaves is_leaving in
        let b : removals_by n v.doing ≡ cond {A = ℕ} (eqb f.number n) 1 0 = ap (removals_by n) removes in omega arith

    same_holds : (n : ℕ) → (state_of c).holds n + holds_by n v.doing ≡ (state_of c).holds n + 0
    same_holds n = let b = ap (holds_by n) removes in omega arith

    -- a file that comes out at a retirement is the one that was removed; one that doesn't is held
    pub file_retired : {g : File} → closed_by_retirement c f.number ≡ Some g → f ≡ g
    file_retired {g} e = removed_file c known.sound f g there_still (out_if (eqb ((state_of c).holds f.number) 0) e).1

    pub is_held : closed_by_retirement c f.number ≡ None → 0 < (state_of c).holds f.number
    is_held e = let r : (state_of c).removed f.number ≡ Some f = leaving_file c known.sound f there_still is_leaving in grind arith

    pub retire_turn : (o : Option File) → closed_by_retirement c f.number ≡ o → Leads (state_of c) (close_of o) (state_of d)
        → leaving d ≡ changed_at (leaving c) f.number false → IsTurn v x c d (done (close_of o)) Idle
    retire_turn None e l leaves = turn [] Idle _ l.1 (omega arith, λ n _. refl) (subst (IsLegal (begin_of v.start) x.front) (sym l.1) known.legal)
        same_holds (leaves_less leaves) (λ g i _. i) (held_so removes) (λ g e. absurd (none_file g e))
    retire_turn (Some g) e l leaves = turn ([] ▷ Close g) Idle _ l.1 (omega arith, λ n _. refl) (legal_one (l.0.1, l.1) tt)
        same_holds (leaves_less leaves) (files_but g l.1 l.0.1.1 (ap (λ (z : ℕ → Bool). z g.number) leaves
        ∙ changed_here (leaving c) f.number false g.number (ap (λ (z : File). z.number) (sym (file_retired e))))
        (λ h other i. not_closed (state_of c) g h other i))
        (held_mine x.number chain (Close g) x.front ∙ held_so removes) (λ h e. absurd (none_file h e))
