-- The numbers and places of files, and activities that name files by them.
use Rattle.fx_table.proofs.Words.{◌≡◌, ◌≢◌, ℕ, true, false, refl, ap, ◌∙◌, ◌⊎◌, inl, inr, ⊎_elim, dite, ℕ_discrete, None, State, Contents, changed_at}
use Rattle.fx_table.proofs.Words.{state_of, Option, Some, with_removed, leaving, is_leaving, IsTable, node_at, removed_at, File, changed_here, arith}
use Rattle.fx_table.proofs.Words.{changed_else, hold_of, retired_of, activity_of, Retired}
use Rattle.fx_plain.specs.declared.node.Node.TheVariants.{At}
use Rattle.fx_table.specs.Files.{HasFile}
use Rattle.fx_table.specs.declared.values.Hold.{Hold}
use Rattle.fx_table.specs.declared.values.Task.{Task}
use Rattle.fx_table.specs.declared.values.Task.TheVariants.{Idle, Holding, Retiring}
use Rattle.fx_table.specs.declared.values.Doing.TheVariants as doing

pub none_file : (f : File) → None ≡ Some f → ⊥
none_file f e = cc

-- the node of a file at a slot is `At` that slot
pub node_of : (c : Contents) → IsTable c → (slot : ℕ) (f : File) → (state_of c).at slot ≡ Some f → node_at c.nodes f.number ≡ At slot f.identity
node_of c sound slot f e = grind arith

-- a file at a slot isn't removed, and isn't leaving
pub not_removed : (c : Contents) → IsTable c → (slot : ℕ) (f : File) → (state_of c).at slot ≡ Some f → (state_of c).removed f.number ≡ None
not_removed c sound slot f e = ap (removed_at f.number) (node_of c sound slot f e)

pub stays_put : (c : Contents) → IsTable c → (slot : ℕ) (f : File) → (state_of c).at slot ≡ Some f → leaving c f.number ≡ false
stays_put c sound slot f e = ap is_leaving (node_of c sound slot f e)

-- a removed file has another number than a file at a slot
pub apart_from : (c : Contents) → IsTable c → (slot : ℕ) (o : Option File) → o ≡ (state_of c).at slot → (x f : File) → o ≡ Some x
    → (state_of c).removed f.number ≡ Some f → f.number ≢ x.number
apart_from c sound slot o is x f there out same = grind arith

-- a file that is leaving is among the removed ones
pub leaving_file : (c : Contents) → IsTable c → (f : File) → HasFile (state_of c) f → leaving c f.number ≡ true
    → (state_of c).removed f.number ≡ Some f
leaving_file c sound f there leaves = ⊎_elim (λ s. let put = stays_put c sound s.0 f s.1 in absurd (cc (put, leaves))) (λ e. e) there

-- the removed file under a file's number is that file
pub removed_file : (c : Contents) → IsTable c → (f g : File) → HasFile (state_of c) f → (state_of c).removed f.number ≡ Some g → f ≡ g
removed_file c sound f g there out = ⊎_elim (λ s. let put = not_removed c sound s.0 f s.1 in absurd (cc (put, out))) (λ e. cc (e, out)) there

-- A slot gets another file, or none, and the file that was there is removed: each file is still in
-- the table
module _ (s : State) (slot : ℕ) (new found : Option File) (is : found ≡ s.at slot) (apart : (x f : File) → found ≡ Some x
    → s.removed f.number ≡ Some f → f.number ≢ x.number) where
  at_slot : (f : File) (o : Option File) → o ≡ Some f → with_removed s.removed o f.number ≡ Some f
  at_slot f o e = rw e (changed_here s.removed f.number (Some f) f.number refl)

  out_still : (f : File) → s.removed f.number ≡ Some f → (o : Option File) → found ≡ o → with_removed s.removed o f.number ≡ Some f
  out_still f out None e = out
  out_still f out (Some x) e = changed_else s.removed x.number (Some x) f.number (apart x f e out) ∙ out

  pub still_there : (f : File) → HasFile s f → ((k : ℕ) × (changed_at s.at slot new k ≡ Some f)) ⊎ (with_removed s.removed found f.number ≡ Some f)
  still_there f there = ⊎_elim
      (λ p. dite (ℕ_discrete p.0 slot) (grind arith)
      (λ n. inl (p.0, changed_else s.at slot new p.0 n ∙ p.1)))
      (λ out. inr (out_still f out found refl)) there

  pub now_removed : (f : File) → found ≡ Some f → with_removed s.removed found f.number ≡ Some f
  now_removed f e = at_slot f found e

-- after a close each other file is where it was
pub not_closed : (s : State) (g f : File) → f.number ≢ g.number → HasFile s f
    → ((slot : ℕ) × (s.at slot ≡ Some f)) ⊎ (changed_at s.removed g.number None f.number ≡ Some f)
not_closed s g f other there = ⊎_elim (λ p. inl p) (λ e. inr (changed_else s.removed g.number None f.number other ∙ e)) there

-- Activities in a table whose holds and removals name files by their numbers.

-- an idle pass has nothing to do
pub idle_task : (t : Task) → activity_of t ≡ doing.Idle → t ≡ Idle
idle_task t is = grind arith

-- a pass that shows a hold has the file of that number
pub holding_task : (t : Task) (f : File) (hold : Hold) → activity_of t ≡ doing.Holding f hold → (t ≡ Holding f) × (hold ≡ hold_of f)
holding_task t f hold is = grind arith

-- a pass that shows a removal has the file of that number
pub retiring_task : (t : Task) (f : File) (retired : Retired) → activity_of t ≡ doing.Retiring f retired
    → (t ≡ Retiring f retired.takes) × (retired ≡ retired_of f retired.takes)
retiring_task t f retired is = grind arith
