-- A request's accesses, and the steps that they are: each explains the answers that the other does.
-- A new kind of request adds its cases here.
use Rattle.fx_order.proofs.{◌≡◌, ℕ, ◌+◌, ◌<◌, ◌≤◌, ◌==◌, true, false, List, [], ◌∷◌, ◌++◌, length, map, refl, sym, ◌∙◌, arith, Option, subst, Some}
use Rattle.fx_order.proofs.{None, ReleasesItsOwn, if◌then◌else◌, option_to_list, Closed, File, Event, Action, Look, Release, Put, Clear, Take}
use Rattle.fx_order.proofs.{Allocate, Full, State, IsSettled, ◌▷◌, ◌▷▷◌, state_after, AllowsAll, AllReleaseTheirOwn, held_by, close_of, closes_in}
use Rattle.fx_order.proofs.{identity_of, by_equality, Looks, Puts, Clears, Takes, Allocates, FindsFull, Permits, table_with, file_removed_by, Access}
use Rattle.fx_order.proofs.{table_after, closed_by, Allows, after, with_removed, ap, inl, inr, zero, suc, ℤ, pos, negsuc, same_options, refusal_of}
use Rattle.fx_order.proofs.{IsDoneAtTable, AnswersAtTable, TakesAt, file_told, append_assoc, append-nil, FileEntry, Errno, ENOMEM, Refuses, MayClose}
use Rattle.fx_order.proofs.{ReadsAt, AppliesList, Answers, Completed, Operation, Reads, Place, IsRefused, IsRequestDone, installed, same_cases}
use Rattle.fx_order.proofs.{action_of, part_of_chain, next_member, Explains, severs, Asked, ExplainsParts, ChainAccess, IsChainDone, AreChainsDone}
use Rattle.fx_order.proofs.{answer_at_table, close_answer, list_intents, read_answer, IsOf, AllZip, At, accesses_by, at_itself, shown, accesses_in}
use Rattle.fx_order.proofs.{accesses_in-then, order_in, accesses_of_chain-order_in}
use Rattle.fx_order.proofs.Words.{accesses_of_chain, last_finding}
use Rattle.fx_order.proofs.Intents.{by_intents}
use Rattle.fx_order.proofs.Placed.{placed_by}

-- the release of what a look-up found, if it found a file
abbrev pub release_of : Option File → List Action
release_of None = []
release_of (Some f) = [] ▷ Release f

-- the actions are those of an access that is done at once
abbrev pub Does : Access → List Action → Type 0
Does (Looks slot found) actions = (x : Option File) × (identity_of x ≡ found) × (actions ≡ [] ▷ Look slot x ▷▷ release_of x)
Does (Puts slot file removed) actions =
    (f : File) × (x : Option File) × (f.identity ≡ file) × (identity_of x ≡ removed) × (actions ≡ [] ▷ Put slot f x ▷▷ close_of x)
Does (Clears slot removed) actions = (x : Option File) × (identity_of x ≡ removed) × (actions ≡ [] ▷ Clear slot x ▷▷ close_of x)
Does (Takes slot removed) actions = (x : Option File) × (identity_of x ≡ removed) × (actions ≡ [] ▷ Take slot x ▷▷ close_of x)
Does (Allocates slot file) actions = (f : File) × (f.identity ≡ file) × (actions ≡ [] ▷ Allocate slot f)
Does FindsFull actions = actions ≡ [] ▷ Full

-- the actions are those of the accesses, one after another
abbrev pub AllDo : List Access → List Action → Type 0
AllDo [] actions = actions ≡ []
AllDo (access ∷ accesses) actions = (own : List Action) × (others : List Action) × (actions ≡ own ▷▷ others) × Does access own × AllDo accesses others

-- the number of files that an access installs
abbrev pub installs : Access → ℕ
installs access = length (placed_by access)

abbrev pub by : ℕ → Action → Event
by chain a = record { pass = chain; chain = chain; action = a }

-- an access that was done at once in a settled state: by its actions, to a settled state, by the
-- next number
pub record Done (st : State) (number : ℕ) (access : Access) : Type 0 where
  pub own : List Action
  pub does : Does access own
  pub allowed : AllowsAll st own
  pub shows : shown (state_after st own) ≡ table_with (shown st) access
  pub settled : IsSettled (state_after st own)
  pub fresh : (n : ℕ) → number + installs access ≤ n → (state_after st own).fresh n ≡ st.fresh n
  pub releases : (chain : ℕ) (h : List Event) → AllReleaseTheirOwn h → AllReleaseTheirOwn (map (by chain) own ++ h)
  pub closes : closes_in own ≡ option_to_list (file_removed_by access)

pub no_file : (x : Option File) → None ≡ identity_of x → x ≡ None
no_file x is = grind arith

module _ (st : State) (number : ℕ) (settled : IsSettled st) where
  -- a step that leaves the holds, and the close of what it took from its slot
  at_once : {access : Access} (a : Action) (x : Option File) → Does access ([] ▷ a ▷▷ close_of x) → Allows st a
      → table_after (shown st) (accesses_by a) ≡ table_with (shown st) access → (after st a).holds ≡ st.holds
      → (after st a).removed ≡ with_removed st.removed x → ((n : ℕ) → number + installs access ≤ n → (after st a).fresh n ≡ st.fresh n)
      → ((held : Option File) → ReleasesItsOwn held a) → closed_by a ≡ [] → identity_of x ≡ file_removed_by access → Done st number access
  at_once a x does may shows holds removed fresh releases closes is = grind arith

  looked_up : {slot : ℕ} {found : Option Closed} (x : Option File) → slot < st.size → x ≡ st.at slot → identity_of x ≡ found
      → Done st number (Looks slot found)
  looked_up {slot} None lt is same = at_once (Look slot None) None (None, same, refl) (lt, is) refl refl refl (λ n _. refl) (λ _. tt) refl refl
  looked_up {slot} (Some f) lt is same =
      let k = f.number in
      let none = settled.unheld f.number in
      let one : (if k == k then st.holds k + 1 else st.holds k) ≡ 1 = at_itself k (st.holds k + 1) (st.holds k) ∙ omega arith in
      record {
        own = [] ▷ Look slot (Some f) ▷ Release f;
        does = (Some f, same, refl);
        allowed = ((tt, (lt, is)), omega arith);
        shows = refl;
        settled = grind (arith, by_equality, settled);
        fresh = λ n _. refl;
        releases = λ chain h all. ((all, tt), at_itself chain (Some f) (held_by h chain));
        closes = refl;
      }

  fresh_after : (n : ℕ) → number + 1 ≤ n → (if n == number then false else st.fresh n) ≡ st.fresh n
  fresh_after n le = by_equality n number (λ b. (if b then false else st.fresh n) ≡ st.fresh n) (λ same. absurd (omega arith)) (λ _. refl)

  abbrev new : Closed → File
  new file = record { number = number; identity = file }

  -- each access that the table permits can be done at once
  pub done : (access : Access) → (0 < installs access → st.fresh number ≡ true) → Permits (shown st) access → Done st number access
  done (Looks slot found) fresh may = looked_up (st.at slot) may.0 refl (sym may.1)
  done (Puts slot file removed) fresh may =
      let x = st.at slot in
      at_once (Put slot (new file) x) x (new file, x, refl, sym may.1, refl) (may.0, fresh (omega arith), refl)
      refl refl refl fresh_after (λ _. tt) refl (sym may.1)
  done (Clears slot removed) fresh may =
      let x = st.at slot in at_once (Clear slot x) x (x, sym may.1, refl) (may.0, refl) refl refl refl (λ n _. refl) (λ _. tt) refl (sym may.1)
  done (Takes slot removed) fresh may =
      let x = st.at slot in at_once (Take slot x) x (x, sym may.1, refl) (may.0, refl) refl refl refl (λ n _. refl) (λ _. tt) refl (sym may.1)
  done (Allocates slot file) fresh may =
      at_once (Allocate slot (new file)) None (new file, refl, refl) (may.0.0, may.1, no_file (st.at slot) may.0.1, fresh (omega arith))
      refl refl refl fresh_after (λ _. tt) refl refl
  done FindsFull fresh may = grind arith

-- the actions of accesses in two parts
pub record Parted (xs ys : List Access) (actions : List Action) : Type 0 where
  pub first : List Action
  pub last : List Action
  pub whole : actions ≡ first ▷▷ last
  pub do_first : AllDo xs first
  pub do_last : AllDo ys last

pub parted : (xs : List Access) {ys : List Access} {actions : List Action} → AllDo (xs ++ ys) actions → Parted xs ys actions
parted [] {actions} all = record { first = []; last = actions; whole = sym (append-nil actions); do_first = refl; do_last = all }
parted (x ∷ xs) {ys} all = let rest : Parted xs ys all.1 = parted xs all.4 in record {
  first = all.0 ▷▷ rest.first;
  last = rest.last;
  whole = all.2 ∙ (ap (λ (l : List Action). l ++ all.0) rest.whole ∙ append_assoc rest.last rest.first all.0);
  do_first = (all.0, rest.first, refl, all.3, rest.do_first);
  do_last = rest.do_last;
}

-- no access, no action
pub none_done : {accesses : List Access} {events : List Action} → accesses ≡ [] → AllDo accesses events → events ≡ []
none_done is all = rw is at all

-- one access
one_done : (a : Access) (events : List Action) → AllDo (a ∷ []) events → Does a events
one_done a events all = subst (Does a) (sym (all.2 ∙ ap (λ (l : List Action). l ++ all.0) all.4)) all.3

-- The steps of the accesses that a request intends are those that its answer needs.

put_steps : {slot : ℕ} {file : Closed} {a : Access} (events : List Action) → (removed : Option Closed) × (a ≡ Puts slot file removed) → Does a events
    → (f : File) × (replaced : Option File) × (f.identity ≡ file) × MayClose ([] ▷ Put slot f replaced) replaced events
put_steps events is does = grind arith

list_applied : (place : Place) (in_list slot : ℕ) (list : List ℤ) (own : List Access) (events : List Action) → AllDo own events
    → AllZip IsOf (list_intents place in_list slot list) own → AppliesList place in_list slot list events
list_applied place in_list slot [] [] events all x = all
list_applied place in_list slot [] (a ∷ own) events all x = absurd x
list_applied place in_list slot (pos n ∷ list) [] events all x = absurd x
list_applied place in_list slot (pos n ∷ list) (a ∷ own) events all x =
    (all.0, all.1, all.2, put_steps all.0 x.0 all.3, list_applied place (in_list + 1) (slot + 1) list own all.1 all.4 x.1)
list_applied place in_list slot (negsuc zero ∷ list) [] events all x = absurd x
list_applied place in_list slot (negsuc zero ∷ list) (a ∷ own) events all x =
    grind (arith, list_applied place (in_list + 1) (slot + 1) list own all.1 all.4 x.1)
list_applied place in_list slot (negsuc (suc n) ∷ list) own events all x =
    ([], events, sym (append-nil events), refl, list_applied place (in_list + 1) (slot + 1) list own events all x)

module _ (catalogue : List FileEntry) (place : Place) (events : List Action) where
  read_steps : (slot off len : ℕ) (found : Option Closed) → Does (Looks slot found) events
      → ReadsAt catalogue place slot off len events (read_answer catalogue place off len (Some (At found)))
  read_steps slot off len found does = grind (arith, no_file, file_told)

  take_steps : (slot : ℕ) (found : Option Closed) → Does (Takes slot found) events
      → TakesAt place slot events (close_answer place (Some (At found)))
  take_steps slot found does = grind (arith, no_file, file_told)

module _ (catalogue : List FileEntry) (size : ℕ) (place : Place) (accesses : List Access) (events : List Action) (all : AllDo accesses events)
    (c : Completed) where
  refused : (errno : Errno) → IsRefused place errno accesses c → Refuses place errno events c
  refused errno x = (none_done x.0 all, x.1)

  at_table : (operation : Operation) → IsDoneAtTable catalogue place operation accesses c → AnswersAtTable catalogue place operation events c
  at_table (Reads slot off len) (inl x) = inl (x.0, refused ENOMEM x.1)
  at_table operation (inl x) = absurd (omega (arith, x.0))
  at_table operation (inr x) = rw x.1 (by_intents catalogue place
      (λ o l. AllDo l events → AnswersAtTable catalogue place o events (answer_at_table catalogue place o (last_finding l)))
      (λ name slot entry removed named does.
      let p = put_steps events (removed, refl) (one_done (Puts slot (installed place 0 entry) removed) events does) in
      (entry, named, (p.0, p.1, p.2, p.3, refl)))
      (λ name slot entry named does. let d = one_done (Allocates slot (installed place 0 entry)) events does in
      (entry, named, inl (slot, d.0, d.1, d.2, refl)))
      (λ name entry named does. (entry, named, inr (one_done FindsFull events does, refl)))
      (λ slot off len found does. read_steps catalogue place events slot off len found (one_done (Looks slot found) events does))
      (λ slot found does. take_steps catalogue place events slot found (one_done (Takes slot found) events does))
      (λ off list l fits does. (list_applied place 0 off list l events does fits, refl)) operation accesses x.0 all)

  -- the steps of accesses that explain an answer explain it
  pub answered : (operation : Operation) → IsRequestDone catalogue size place operation accesses c → Answers catalogue size place operation events c
  answered operation = same_options (refusal_of catalogue size operation) (at_table operation) refused

-- The accesses of steps that an answer needs are those that the request intends.

list_intended : (place : Place) (in_list slot : ℕ) (list : List ℤ) (events : List Action) → AppliesList place in_list slot list events
    → AllZip IsOf (list_intents place in_list slot list) (accesses_in events)
list_intended place in_list slot [] events x = rw x tt
list_intended place in_list slot (entry ∷ list) events x =
    grind (arith, list_intended place (in_list + 1) (slot + 1) list x.1 x.4, accesses_in-then)

module _ (catalogue : List FileEntry) (size : ℕ) (place : Place) (events : List Action) (c : Completed) where
  refusal_done : (errno : Errno) → Refuses place errno events c → IsRefused place errno (accesses_in events) c
  refusal_done errno refuses = (ap accesses_in refuses.0, refuses.1)

  at_table_done : (operation : Operation) → AnswersAtTable catalogue place operation events c
      → IsDoneAtTable catalogue place operation (accesses_in events) c
  at_table_done operation h2 = grind (arith, refusal_done, list_intended)

  -- the accesses of steps that explain an answer explain it
  pub request_done : (operation : Operation) → Answers catalogue size place operation events c
      → IsRequestDone catalogue size place operation (accesses_in events) c
  request_done operation = same_options (refusal_of catalogue size operation) (at_table_done operation) refusal_done

-- The members of chains, by their accesses and by the steps that these are: each explains the
-- answers that the other does.

module _ (catalogue : List FileEntry) (size : ℕ) where
  -- a chain
  chain_explained : (accesses : List Access) (events : List Action) → AllDo accesses events
      → (place : Place) (requests : List Asked) (cs : List Completed)
      → IsChainDone catalogue size place requests accesses cs → Explains catalogue size place requests events cs
  chain_explained accesses events all place [] cs x = (none_done x.0 all, x.1)
  chain_explained accesses events all place (request ∷ requests) cs x =
      let two : Parted x.0 x.1 events = parted x.0 (rw x.4 at all) in
      let own = answered catalogue size place x.0 two.first two.do_first x.2 request.operation x.6 in
      let rest = chain_explained x.1 two.last two.do_last (next_member place) requests x.3 in
      let others = same_cases (severs request x.2) (λ y. (none_done y.0 two.do_last, y.1)) rest x.7 in
      (two.first, two.last, x.2, x.3, two.whole, x.5, own, others)

  -- all chains
  pub all_chains_explained : (submission chain : ℕ) (runs : List (List Asked)) (order : List ChainAccess) (h : List Event) (cs : List Completed)
      → ((c : ℕ) → AllDo (accesses_of_chain c order) (map action_of (part_of_chain c h)))
      → AreChainsDone catalogue size submission chain runs order cs → ExplainsParts catalogue size submission chain runs h cs
  all_chains_explained submission chain [] order h cs parts x = x
  all_chains_explained submission chain (run ∷ runs) order h cs parts x =
      grind (arith, all_chains_explained submission (chain + 1) runs order h x.1 parts x.4, chain_explained)

  -- the steps that explain a chain, by its accesses
  chain_done : (place : Place) (requests : List Asked) (events : List Action) (cs : List Completed)
      → Explains catalogue size place requests events cs → IsChainDone catalogue size place requests (accesses_in events) cs
  chain_done place [] events cs x = (ap accesses_in x.0, x.1)
  chain_done place (request ∷ requests) events cs x =
      let own = request_done catalogue size place x.0 x.2 request.operation x.6 in
      let others = same_cases (severs request x.2) (λ y. (ap accesses_in y.0, y.1)) (chain_done (next_member place) requests x.1 x.3) x.7 in
      (accesses_in x.0, accesses_in x.1, x.2, x.3, ap accesses_in x.4 ∙ accesses_in-then x.0 x.1, x.5, own, others)

  -- and all chains
  pub all_explained : (submission chain : ℕ) (runs : List (List Asked)) (h : List Event) (cs : List Completed)
      → ExplainsParts catalogue size submission chain runs h cs → AreChainsDone catalogue size submission chain runs (order_in h) cs
  all_explained submission chain [] h cs x = x
  all_explained submission chain (run ∷ runs) h cs x =
      grind (arith, all_explained submission (chain + 1) runs h x.1 x.4, chain_done, accesses_of_chain-order_in)
