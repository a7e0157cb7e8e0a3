-- The conditions of a pass for each call of the table that it has, and its obligations afterwards.
use Rattle.fx_baton.proofs.Words.{◌≡◌, ℕ, ◌+◌, ◌*◌, ◌<◌, ◌≤◌, Bool, true, false, [], ◌∷◌, map, sym, refl, ap, ◌∙◌, subst, arith, Option, Some, None}
use Rattle.fx_baton.proofs.Words.{option_map, is_some, not, TableId, rest, Closed, State, Steps, changed_at, Contents, IsTable, state_of, leaving}
use Rattle.fx_baton.proofs.Words.{Leads, action_of, close_of, ◌▷◌, ◌▷▷◌, numbered, identity_of, closed_by_release, closed_by_retirement, EndsHold}
use Rattle.fx_baton.proofs.Words.{LetsLeave, File, Look, Release, Put, Clear, Take, Allocate, Full, pass_of_number, number_following, Opening}
use Rattle.fx_baton.proofs.Words.{size_of, PassView, hold_of, next_of, Task, Idle, Holding, Retiring, Log, View, Start, Call, BatonPass, opening_of}
use Rattle.fx_baton.proofs.Words.{begin_of, IsTurn, view_of, is_idle, HasTable, UsesNext, HasCalled, HasGivenBack, first_own, IsHoldOf, IsRetiredOf}
use Rattle.fx_baton.proofs.Words.{next_is_its_own, new_here, activity_of, retiring, IsFileHold, retired_of, holds_now, actions_of, doing_of}
use Rattle.fx_baton.proofs.Words.{events_of, use_of, table_of_seats}
use Rattle.fx_table.proofs.FileLemmas.{idle_task, holding_task, retiring_task}
use Rattle.fx_table.specs.Calls.{IsNewFile, Adds, no_use, one_number, ReleasesFile, RetiresFile, one_look, HasRetired, Released}
use Rattle.atomic_table.specs.Lent.{seat_with}
use Rattle.fx_plain.specs.Step.{Allows}
use Rattle.fx_plain.proofs.Leading.{same_size}
use Rattle.fx_table.specs.declared.values.Hold.{Hold}
use Rattle.fx_table.specs.declared.values.Retired.{Retired}
use Rattle.fx_baton.specs.declared.view.Call.TheVariants.{Look as LookCall, Release as ReleaseCall, Put as PutCall, Allocate as AllocateCall}
use Rattle.fx_baton.specs.declared.view.Call.TheVariants.{Full as FullCall, Clear as ClearCall, Take as TakeCall, Retire as RetireCall}
use Rattle.fx_baton.proofs.CallsAreTurns.{look_turn, slot_turn, full_turn, letting_go_turn, file_released, retire_turn, file_retired, is_held}
use Rattle.fx_baton.proofs.CallsAreTurns.{UsesOwn, uses_next}
use Rattle.fx_table.specs.declared.values.Doing.TheVariants as doing

module _ {id : TableId} {k : Start} {u : PassView} {p : BatonPass} where
  -- the table may be lent
  pub may_lend : {c d : Contents} → HasTable id k u c d p → (p.seat.table_id ≡ id) × ((x : Contents) × (p.seat.me.1 ≡ (0, x) ∷ rest p.seat.me.1))
  may_lend {c} {d} h = (h.table, (d, h.slots ∙ ap (λ l. (0, d) ∷ l) (sym (ap rest h.slots))))

  -- after a call the pass has another table
  abbrev still_has : {c d : Contents} → HasTable id k u c d p → (now : Contents) → HasTable id k u c now (record p { seat = seat_with p.seat 0 now })
  still_has h now = record {
    table = h.table;
    slots = ap (λ l. (0, now) ∷ rest l) h.slots;
    loan = h.loan;
    passes = h.passes;
    more = h.more;
    seated = h.seated;
    knows = h.knows;
  }

-- the number and the entry of the file at a slot, as results show them
abbrev pub shown : File → ℕ × ℕ
shown f = (f.number, f.identity.entry)

-- the activity of a pass that found a file, and of one that removed it
idle_told : {X : Type 0} (tell : File → X) (o : Option File) {found : Option X} {flag : Bool} → is_some found ≡ not flag → found ≡ option_map tell o
    → (flag ≡ is_idle (holds_now o)) × (flag ≡ is_idle (retiring o 0))
idle_told tell o says e = grind arith

-- a result is nothing, or a file
none_found : {X : Type 0} (tell : File → X) (P : Option File → Type 0) (o : Option File) → None ≡ option_map tell o → P o → P None
none_found tell P o e a = grind arith

some_found : {X : Type 0} {tell : File → X} {x : X} (P : Option File → Type 0) (o : Option File) → Some x ≡ option_map tell o → P o
    → (f : File) × (x ≡ tell f) × P (Some f)
some_found P o e a = grind arith

-- a pass took the table, and was lent what it took
module _ {id : TableId} {k : Start} {u : PassView} {c : Contents} {p : BatonPass}
    (took : HasTable id k u (table_of_seats p.seat.me.1) (table_of_seats p.seat.me.1) p) (value : p.seat.me.1 ≡ (0, c) ∷ rest p.seat.me.1) where
  h : HasTable id k u c c p
  h = subst (λ (x : Contents). HasTable id k u x x p) (ap table_of_seats value) took

  abbrev lent : Contents → BatonPass
  lent d = record p { seat = seat_with p.seat 0 d }

  abbrev o : Opening
  o = opening_of k

  abbrev view : View
  view = p.seat.me.0

  abbrev log : Log
  log = h.seated.log

  -- the table's size is that of the opening
  pub size_is : (state_of c).size ≡ size_of (opening_of k)
  size_is = same_size (begin_of view.start) (state_of c) (map action_of log.front) h.knows.legal.leads
      ∙ ap (λ (z : Start). size_of (opening_of z)) h.seated.start

  pub slot_inside : {slot : ℕ} → slot < size_of (opening_of k) → slot < (state_of c).size
  slot_inside l = let e = size_is in omega arith

  same_doing : activity_of view.doing ≡ u.doing
  same_doing = ap (λ (z : PassView). z.doing) h.more.same

  same_numbers : p.numbers_left ≡ u.numbers_left
  same_numbers = ap (λ (z : PassView). z.numbers_left) h.more.same

  same_start : view.start ≡ k
  same_start = h.seated.start

  -- the next number of a pass that has one
  module _ (some_left : 0 < u.numbers_left) (number : ℕ) (is_next : number ≡ next_of u) where
    number_is : number ≡ next_of (view_of p)
    number_is = is_next ∙ sym (ap next_of h.more.same)

    its_own : (pass_of_number k.passes number ≡ log.number) × (256 ≤ number) × (number < 256 + 64 * k.chains)
    its_own =
        let a = next_is_its_own (opening_of k) (view_of p) (let e = same_numbers in omega arith) p.count h.seated.turns in
        rw number_is (a.0 ∙ sym h.seated.number, a.1, a.2)

    behind_own : number_following log.own ≤ number
    behind_own = grind (arith, first_own, h, number_is)

    owned : pass_of_number view.start.passes number ≡ log.number
    owned = ap (λ (z : Start). pass_of_number z.passes number) same_start ∙ its_own.0

    uses_own : UsesOwn c p.chain h.knows (changed_at (state_of c).fresh number false) (number + 1)
    uses_own = uses_next c p.chain h.knows owned behind_own

    pub number_fresh : (state_of c).fresh number ≡ true
    number_fresh = grind (arith, same_start, its_own, h, behind_own, owned)

  -- a turn, by the pass's number
  called : {d : Contents} {call : Call} {flag : Bool} → IsTable d
      → IsTurn view log c d (events_of c log.number p.chain view.doing call) (doing_of c call) → UsesNext (view_of p) call
      → (use_of call).numbers ≤ p.numbers_left → (use_of call).looks ≤ p.looks_left → flag ≡ is_idle (doing_of c call)
      → HasCalled id k call flag (lent d)
  called {d} {call} {flag} sound turn uses numbers looks flag_says = record {
    before = u;
    taken = c;
    given = d;
    has = still_has h d;
    sound = sound;
    turn = subst (λ (n : ℕ). IsTurn view log c d (events_of c n p.chain view.doing call) (doing_of c call)) h.seated.number turn;
    uses = uses;
    numbers = numbers;
    looks = looks;
    flag = flag_says;
  }

  -- the events that the call adds
  pub added : {call : Call} {d : Contents} {q : BatonPass} → HasGivenBack id k call (lent d) q
      → Adds o u (actions_of c view.doing call) (activity_of (doing_of c call)) (use_of call) (view_of q)
  added {d} gives = gives.adds u c d (still_has h d)

  module _ (idle : u.doing ≡ doing.Idle) where
    is_idle_here : view.doing ≡ Idle
    is_idle_here = idle_task view.doing (same_doing ∙ idle)

    pub look_called : {slot : ℕ} {d : Contents} {found : Option (ℕ × ℕ)} {flag : Bool} → 0 < u.looks_left
        → Steps (state_of c) (Look slot ((state_of c).at slot)) (state_of d) → leaving d ≡ leaving c
        → found ≡ option_map shown ((state_of c).at slot) → is_some found ≡ not flag → IsTable d → HasCalled id k (LookCall slot) flag (lent d)
    look_called {slot} {d} {found} {flag} some step leaves answer says sound = called sound
        (look_turn d p.chain h.knows is_idle_here ((state_of c).at slot) step leaves) tt (omega arith)
        (let e = ap (λ (z : PassView). z.looks_left) h.more.same in omega arith) (idle_told shown ((state_of c).at slot) says answer).0

    pub put_called : (some : 0 < u.numbers_left) {slot number : ℕ} {file : Closed} {d : Contents} {found : Option ℕ} {flag : Bool}
        → number ≡ next_of u → LetsLeave c d (Put slot (numbered number file) ((state_of c).at slot)) ((state_of c).at slot) found
        → is_some found ≡ not flag → HasCalled id k (PutCall slot number file) flag (lent d)
    put_called some {slot} {number} {file} {d} {found} {flag} next l says = called l.sound
        (slot_turn d p.chain h.knows is_idle_here (Put slot (numbered number file) ((state_of c).at slot)) slot (Some (numbered number file)) _ _
        l.step l.step.1 refl l.leaving tt (λ _. refl) (uses_own some number next))
        (number_is some number next) (let e = same_numbers in omega arith) (omega arith)
        (idle_told (λ x. x.number) ((state_of c).at slot) says l.answer).1

    pub allocate_called : (some : 0 < u.numbers_left) {slot number : ℕ} {file : Closed} {d : Contents} → number ≡ next_of u
        → Steps (state_of c) (Allocate slot (numbered number file)) (state_of d) → leaving d ≡ leaving c
        → IsTable d → HasCalled id k (AllocateCall slot number file) true (lent d)
    allocate_called some {slot} {number} {file} {d} next step leaves sound = called sound
        (slot_turn d p.chain h.knows is_idle_here (Allocate slot (numbered number file)) slot (Some (numbered number file)) None _
        step step.1 (sym step.0.2) leaves tt (λ _. refl) (uses_own some number next))
        (number_is some number next) (let e = same_numbers in omega arith) (omega arith) refl

    pub full_called : {d : Contents} → Allows (state_of c) Full → d ≡ c → IsTable d → HasCalled id k FullCall true (lent d)
    full_called full same sound = grind (arith, called, full_turn, h, is_idle_here, leaving)

    pub clear_called : {slot : ℕ} {d : Contents} {found : Option ℕ} {flag : Bool}
        → LetsLeave c d (Clear slot ((state_of c).at slot)) ((state_of c).at slot) found → is_some found ≡ not flag
        → HasCalled id k (ClearCall slot) flag (lent d)
    clear_called {slot} {d} {found} {flag} l says = called l.sound
        (slot_turn d p.chain h.knows is_idle_here (Clear slot ((state_of c).at slot)) slot None _ _ l.step l.step.1 refl l.leaving tt (λ _. refl)
        (omega arith, λ n _. refl)) tt (omega arith) (omega arith) (idle_told (λ x. x.number) ((state_of c).at slot) says l.answer).1

    pub take_called : {slot : ℕ} {d : Contents} {found : Option ℕ} {flag : Bool}
        → LetsLeave c d (Take slot ((state_of c).at slot)) ((state_of c).at slot) found → is_some found ≡ not flag
        → HasCalled id k (TakeCall slot) flag (lent d)
    take_called {slot} {d} {found} {flag} l says = called l.sound
        (slot_turn d p.chain h.knows is_idle_here (Take slot ((state_of c).at slot)) slot None _ _ l.step l.step.1 refl l.leaving tt (λ _. refl)
        (omega arith, λ n _. refl)) tt (omega arith) (omega arith) (idle_told (λ x. x.number) ((state_of c).at slot) says l.answer).1

  -- the result of a look-up: nothing, or a file
  pub empty_looked : {slot : ℕ} {d : Contents} {q : BatonPass} → HasGivenBack id k (LookCall slot) (lent d) q
      → None ≡ option_map shown ((state_of c).at slot) → Adds o u ([] ▷ Look slot None) doing.Idle one_look (view_of q)
  empty_looked {slot} {d} {q} gives e =
      none_found shown (λ z. Adds o u ([] ▷ Look slot z) (activity_of (holds_now z)) one_look (view_of q)) ((state_of c).at slot) e (added gives)

  pub file_looked : {slot node entry : ℕ} {d : Contents} {q : BatonPass} → HasGivenBack id k (LookCall slot) (lent d) q
      → Some (node, entry) ≡ option_map shown ((state_of c).at slot)
      → (f : File) × IsFileHold o f (record { node = node; entry = entry })
      × Adds o u ([] ▷ Look slot (Some f)) (doing.Holding f (record { node = node; entry = entry })) one_look (view_of q)
  file_looked {slot} {node} {entry} {d} {q} gives e =
      let there = some_found (λ z. Adds o u ([] ▷ Look slot z) (activity_of (holds_now z)) one_look (view_of q)) ((state_of c).at slot) e (added gives) in
      grind arith

  -- the result of an installation at any slot
  pub allocated_so : {slot number : ℕ} {its file : Closed} {d : Contents} {q : BatonPass} → number ≡ next_of u → its ≡ file
      → HasGivenBack id k (AllocateCall slot number its) (lent d) q → slot < (state_of c).size
      → (slot < size_of o) × ((new : File) × IsNewFile o u file new × Adds o u ([] ▷ Allocate slot new) doing.Idle one_number (view_of q))
  allocated_so {slot} {number} {its} {file} next is gives inside =
      (let e = size_is in omega arith, (numbered number its, new_here o u slot number its file next is, added gives))

  module _ (hold : Hold) (held : IsHoldOf u hold) where
    abbrev f : File
    f = held.0

    its_task : (view.doing ≡ Holding f) × (hold ≡ hold_of f)
    its_task = holding_task view.doing f hold (same_doing ∙ held.1)

    holds_here : view.doing ≡ Holding f
    holds_here = its_task.0

    node_is : hold.node ≡ f.number
    node_is = ap (λ (x : Hold). x.node) its_task.1

    pub release_called : {d : Contents} {out : Option Closed} → EndsHold c d hold.node out → HasCalled id k ReleaseCall true (lent d)
    release_called ends = grind (arith, node_is, called, holds_here, letting_go_turn, h)

    -- the result of a release
    pub released_so : (d : Contents) {q : BatonPass} → HasGivenBack id k ReleaseCall (lent d) q → (result : Option Closed)
        → result ≡ identity_of (closed_by_release c hold.node) → Released o u hold result (view_of q)
    released_so d {q} gives result is = (
      f,
      held.1,
      subst (λ (z : Option Closed). ReleasesFile o u f z (view_of q)) (sym (is ∙ ap (λ (n : ℕ). identity_of (closed_by_release c n)) node_is))
          (by_out (closed_by_release c f.number) refl (rw holds_here at (added gives))),
    )
      where
        by_out : (out : Option File) → closed_by_release c f.number ≡ out → Adds o u ([] ▷ Release f ▷▷ close_of out) doing.Idle no_use (view_of q)
            → ReleasesFile o u f (identity_of out) (view_of q)
        by_out None e a = a
        by_out (Some g) e a = grind (arith, file_released, h, holds_here)

  module _ (retired : Retired) (removed : IsRetiredOf u retired) where
    abbrev gone : File
    gone = removed.0

    its_removal : (view.doing ≡ Retiring gone retired.takes) × (retired ≡ retired_of gone retired.takes)
    its_removal = retiring_task view.doing gone retired (same_doing ∙ removed.1)

    removes_here : view.doing ≡ Retiring gone retired.takes
    removes_here = its_removal.0

    place_is : retired.node ≡ gone.number
    place_is = ap (λ (x : Retired). x.node) its_removal.1

    leads_there : (d : Contents) → Leads (state_of c) (close_of (closed_by_retirement c retired.node)) (state_of d)
        → Leads (state_of c) (close_of (closed_by_retirement c gone.number)) (state_of d)
    leads_there d = subst (λ (n : ℕ). Leads (state_of c) (close_of (closed_by_retirement c n)) (state_of d)) place_is

    pub retire_called : {d : Contents} → Leads (state_of c) (close_of (closed_by_retirement c retired.node)) (state_of d)
        → leaving d ≡ changed_at (leaving c) retired.node false → IsTable d → HasCalled id k RetireCall true (lent d)
    retire_called {d} leads leaves sound = called sound
        (subst (λ (z : Task). IsTurn view log c d (events_of c log.number p.chain z RetireCall) Idle) (sym removes_here)
        (retire_turn d p.chain h.knows gone retired.takes removes_here (closed_by_retirement c gone.number) refl (leads_there d leads)
        (leaves ∙ ap (λ (n : ℕ). changed_at (leaving c) n false) place_is))) tt (omega arith) (omega arith) refl

    -- the result of a retirement
    pub retired_so : (d : Contents) {q : BatonPass} → HasGivenBack id k RetireCall (lent d) q → (result : Option Closed)
        → result ≡ identity_of (closed_by_retirement c retired.node)
        → Leads (state_of c) (close_of (closed_by_retirement c retired.node)) (state_of d) → HasRetired o u retired result (view_of q)
    retired_so d {q} gives result is leads = (
      gone,
      removed.1,
      subst (λ (z : Option Closed). RetiresFile o u gone z (view_of q)) (sym (is ∙ ap (λ (n : ℕ). identity_of (closed_by_retirement c n)) place_is))
          (by_out (closed_by_retirement c gone.number) refl (leads_there d leads) (rw removes_here at (added gives))),
    )
      where
        by_out : (out : Option File) → closed_by_retirement c gone.number ≡ out → Leads (state_of c) (close_of out) (state_of d)
            → Adds o u (close_of out) doing.Idle no_use (view_of q) → RetiresFile o u gone (identity_of out) (view_of q)
        by_out None e l a =
            let held = is_held c p.chain h.knows gone retired.takes removes_here e in
            let same = ap (λ (s : State). s.holds gone.number) (gives.end ∙ l.1) in (omega arith, a)
        by_out (Some g) e l a = grind (arith, file_retired, h, removes_here)
