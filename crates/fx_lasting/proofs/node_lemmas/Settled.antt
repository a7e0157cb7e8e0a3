-- The node that a pass keeps: the pass after the steps that keep it or free it.
use Rattle.fx_lasting.proofs.{◌≡◌, ℕ, List, [], ◌∷◌, sym, subst, Bool, true, None, some, get_elem?, Sat, At, Work, Runs}
use Rattle.fx_lasting.proofs.{Emptying, SettlesNode, Parks, doing_in, pass_of, rest, Parked, MayCarry, IsTrue, ◌↔◌}
use Rattle.fx_lasting.proofs.{TakenOut, IsBetweenCalls, PassView, IsIdle, DoesNothing, runs_one, runs_goes, arith}
use Rattle.fx_lasting.proofs.Words.{Keeping}

-- a pass that frees the node that it kept has seen and done nothing else
pub settled_view : {st : At} {m m' : Sat} {n lost found : ℕ} → m.0.work ≡ Keeping n lost → SettlesNode st m found m' → pass_of m'.0 ≡ pass_of m.0
settled_view works did = grind arith

pub still_idle : {v w : PassView} → w ≡ v → IsIdle v → IsIdle w
still_idle same idle = subst IsIdle (sym same) idle

-- a pass with the place of a node of its stock, whose file is closed, loads the node's word
pub parked_so : {m m' : Sat} {n : ℕ} (stock : List ℕ) (entry : ℕ) {st : At} {found : ℕ} → m.0.work ≡ Emptying n → m.1 ≡ (n, None) ∷ []
    → get_elem? stock entry ≡ some n → Parks st m found m' → (keeps : Bool) → IsTrue keeps ↔ MayCarry found → Parked n stock entry m keeps m'
parked_so stock entry works place there did keeps so = grind (arith, runs_one, rest, runs_goes)

-- it took the file out: it keeps the node or is idle, and its fields may say so
pub out_so : {m m' : Sat} (n entry : ℕ) (stock : List ℕ) (passes visit : ℕ) (guarded keeps : Bool) → TakenOut n stock entry m keeps m'
    → (w : Work) × Runs m [] w m.0.glance m.0.change 2 m' × (m'.1 ≡ []) × (doing_in w ≡ DoesNothing)
    × IsBetweenCalls passes true guarded keeps visit stock entry w
out_so n entry stock passes visit guarded keeps out = grind arith
