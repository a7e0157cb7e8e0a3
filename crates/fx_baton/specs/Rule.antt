-- The rule of the table guarded by one word.
use Rattle.std.specs.Prelude.{◌≡◌, ◌≢◌, ◌+◌, ◌<◌, ◌≤◌, ◌==◌, ◌⊎◌, if◌then◌else◌, ◌∷◌}
use Rattle.fx_baton.specs.Words.{ℕ, true, List, [], map, Option, Some, None, Contains, sum_by, Me}
use Rattle.fx_baton.specs.Words.{Step, Contents, state_of, leaving, IsTable, IsLegal, IsSeenBy}
use Rattle.fx_baton.specs.Words.{part_of_pass, held_by, ◌▷▷◌, File, Event, FIRST_CHAIN_NUMBER}
use Rattle.fx_baton.specs.Words.{MAX_PASSES, numbers_for, number_following, pass_of_number, Opening}
use Rattle.fx_baton.specs.Words.{opening_with, start_of, state_at, Task, Idle, Holding, Retiring}
use Rattle.fx_baton.specs.Words.{Seats, Log, View, Start}
use Rattle.atomic_table.specs.Table.{State as TableState}
use Rattle.fx_plain.specs.State.{State}
use Rattle.fx_table.specs.Files.{HasFile}
use Rattle.table_seats.specs.Together.{Together}
use mathlib.Core.Option.{some, none}
use lib.ListN.{get_elem?}

abbrev pub Shared : Type 0
Shared = TableState Contents View

-- a seat: its view, and the slots that it has
abbrev pub Seated : Type 0
Seated = Me Contents View

abbrev pub opening_of : Start → Opening
opening_of k = opening_with k.plain.value k.chains k.passes

abbrev pub begin_of : Start → State
begin_of k = start_of (opening_of k)

abbrev pub empty_table : Contents
empty_table = record { slots = []; range = (0, 0); nodes = []; holds = []; numbers = 0 }

abbrev pub no_start : Start
no_start = record {
  plain = record { marker = record {}; value = empty_table };
  chains = 0;
  passes = 0;
}

-- the views, by what all shared tables have
abbrev pub seats : Seats View Log Start
seats = record {
  logs = λ v. v.logs;
  start = λ v. v.start;
  known = λ v. v.known;
  IsIdle = λ v. (v.doing ≡ Idle) × (v.loan ≡ None);
  number = λ x. x.number;
  front = λ x. x.front;
  own = λ x. x.own;
  opening = opening_of;
  new_log = λ k p. record { number = p; front = []; own = [] };
  begun = λ k logs. record { start = k; logs = logs; doing = Idle; loan = None; known = [] };
  with_logs = λ v logs. record v { logs = logs };
  showing = λ h. record { start = no_start; logs = []; doing = Idle; loan = None; known = h };
}

-- the file that the pass holds
abbrev pub file_held : Task → Option File
file_held Idle = None
file_held (Holding f) = Some f
file_held (Retiring f takes) = None

-- the file that the pass holds or has to retire
abbrev pub file_in_hand : Task → Option File
file_in_hand Idle = None
file_in_hand (Holding f) = Some f
file_in_hand (Retiring f takes) = Some f

-- 1 if the pass holds the file of the number, and 1 if it has to retire it
abbrev pub holds_by : ℕ → Task → ℕ
holds_by n Idle = 0
holds_by n (Holding f) = if f.number == n then 1 else 0
holds_by n (Retiring f takes) = 0

abbrev pub removals_by : ℕ → Task → ℕ
removals_by n Idle = 0
removals_by n (Holding f) = 0
removals_by n (Retiring f takes) = if f.number == n then 1 else 0

-- 1 if the file of the number has yet to be retired
abbrev pub leaving_count : Contents → ℕ → ℕ
leaving_count c n = if leaving c n then 1 else 0

-- the pass's numbers after the last one that it used are fresh
abbrev pub HasFreshNumbers : Start → State → Log → Type 0
HasFreshNumbers k st x =
    (n : ℕ) → FIRST_CHAIN_NUMBER ≤ n → number_following x.own ≤ n → n < numbers_for k.chains
    → pass_of_number k.passes n ≡ x.number → st.fresh n ≡ true

-- the agreement of the history with one pass of a seat
pub record IsLog (k : Start) (h : List Event) (c : Contents) (doing : Task) (x : Log)
    : Type 0 where
  pub held : held_by h x.number ≡ file_held doing
  pub fresh : HasFreshNumbers k (state_of c) x

pub record IsView (k : Start) (h : List Event) (c : Contents) (v : View) : Type 0 where
  pub logs : (x : Log) → Contains v.logs x → IsLog k h c v.doing x
  pub file : (f : File) → file_in_hand v.doing ≡ Some f → HasFile (state_of c) f

-- the table is at home
abbrev pub IsHome : Contents → Shared → Type 0
IsHome c s =
    (s.words ≡ 1 ∷ []) × (s.homes ≡ some c ∷ [])
    × ((i : ℕ) (v : View) → get_elem? s.views i ≡ some v → v.loan ≡ None)

-- one seat has the table, and has seen the whole history
pub record IsAway (c : Contents) (h : List Event) (s : Shared) : Type 0 where
  pub words : s.words ≡ 0 ∷ []
  pub homes : s.homes ≡ none ∷ []
  pub holder : ℕ
  pub view : View
  pub at : get_elem? s.views holder ≡ some view
  pub loan : view.loan ≡ Some c
  pub whole : (x : Log) → Contains view.logs x → x.front ≡ h
  pub others : (i : ℕ) (v : View) → i ≢ holder → get_elem? s.views i ≡ some v → v.loan ≡ None

-- the table and all views agree with one history
pub record IsKept (k : Start) (s : Shared) : Type 0 where
  pub history : List Event
  pub contents : Contents
  pub life : Together seats k s.views history
  pub end : state_of contents ≡ state_at (opening_of k) history
  pub sound : IsTable contents
  pub place : IsHome contents s ⊎ IsAway contents history s
  pub views : (i : ℕ) (v : View) → get_elem? s.views i ≡ some v → IsView k history contents v
  pub few : k.passes ≤ MAX_PASSES
  -- a file's holds are the passes that hold it, and a file is leaving while one pass has yet to
  -- retire it
  pub held : (n : ℕ) → sum_by (λ v. holds_by n v.doing) s.views ≡ (state_of contents).holds n
  pub leaves : (n : ℕ) → sum_by (λ v. removals_by n v.doing) s.views ≡ leaving_count contents n

-- the knowledge of a seat with one pass that has taken the table
pub record Knows (v : View) (x : Log) (c : Contents) (h : List Event) : Type 0 where
  pub legal : IsLegal (begin_of v.start) h (state_of c)
  pub sound : IsTable c
  pub seen : IsSeenBy x.front h
  pub own : part_of_pass x.number h ≡ x.own
  pub held : held_by h x.number ≡ file_held v.doing
  pub fresh : HasFreshNumbers v.start (state_of c) x
  pub file : (f : File) → file_in_hand v.doing ≡ Some f → HasFile (state_of c) f
  pub few : (n : ℕ) → (state_of c).holds n ≤ MAX_PASSES
  pub holds : (n : ℕ) → holds_by n v.doing ≤ (state_of c).holds n
  pub leaves : (n : ℕ) → removals_by n v.doing ≤ leaving_count c n

-- the view of a seat with one pass that has the table and has seen the whole history
abbrev pub lent_view : View → Log → List Event → Contents → View
lent_view v x h c = record v { logs = record x { front = h } ∷ []; loan = Some c }

-- the seat with the log x took the table c
pub record Takes (m : Seated) (x : Log) (m' : Seated) : Type 0 where
  pub contents : Contents
  pub history : List Event
  pub knows : Knows m.0 x contents history
  pub view : m'.0 ≡ lent_view m.0 x history contents
  pub slots : m'.1 ≡ (0, contents) ∷ m.1

-- the table was taken; or it was away, and nothing changed
abbrev pub Grabs : Step Contents → Seated → ℕ → Seated → Type 0
Grabs st m found m' =
    ((found ≡ 1) × ((x : Log) → m.0.logs ≡ x ∷ [] → Takes m x m')) ⊎ ((found ≢ 1) × (m' ≡ m))

-- a pass after these events of its own
abbrev pub log_after : List Event → Log → Log
log_after es x = record x { front = x.front ▷▷ es; own = x.own ▷▷ es }

-- the view of a pass that put the table back
abbrev pub view_after : View → List Event → Task → View
view_after v es doing = record v { logs = map (log_after es) v.logs; doing = doing; loan = None }

abbrev pub PutsBack : List Event → Task → Step Contents → Seated → ℕ → Seated → Type 0
PutsBack es doing st m found m' = (m'.0 ≡ view_after m.0 es doing) × (m'.1 ≡ [])

-- the condition for a seat with one pass to put the table c back as d, after the events es
pub record IsTurn (v : View) (x : Log) (c d : Contents) (es : List Event) (doing : Task)
    : Type 0 where
  pub authors : (e : Event) → Contains es e → e.pass ≡ x.number
  pub legal : IsLegal (begin_of v.start) (x.front ▷▷ es) (state_of d)
  pub held : (n : ℕ)
      → (state_of d).holds n + holds_by n v.doing ≡ (state_of c).holds n + holds_by n doing
  pub leaves : (n : ℕ)
      → leaving_count d n + removals_by n v.doing ≡ leaving_count c n + removals_by n doing
  -- files that are held or leaving stay
  pub files : (f : File) → HasFile (state_of c) f
      → (0 < (state_of d).holds f.number) ⊎ (leaving d f.number ≡ true) → HasFile (state_of d) f
  pub now : held_by (x.front ▷▷ es) x.number ≡ file_held doing
  pub file : (f : File) → file_in_hand doing ≡ Some f → HasFile (state_of d) f
  -- it used no fresh numbers but its own
  pub fresh : HasFreshNumbers v.start (state_of d) (log_after es x)
  pub others : (n : ℕ) → pass_of_number v.start.passes n ≢ x.number → (state_of c).fresh n ≡ true
      → (state_of d).fresh n ≡ true
