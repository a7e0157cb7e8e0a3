-- Laws of every shared table, which follow from the contracts of its calls and of its close.
use Rattle.std.specs.Prelude.{◌≡◌, ℕ, List, Contains}
use Rattle.fx_plain.specs.Contents.{Contents}
use Rattle.fx_plain.specs.History.{part_of_chain, ◌▷▷◌}
use Rattle.fx_plain.specs.declared.event.Action.{Action}
use Rattle.fx_table.specs.declared.values.Doing.{Doing}
use Rattle.fx_table.specs.Opening.{Opening}
use Rattle.fx_table.specs.Pass.{PassView, IsOfDrawnChains}
use Rattle.fx_table.specs.Calls.{Use, both_uses, Adds}
use Rattle.fx_table.specs.Closing.{ClosesTable}

-- two calls in a row add what each of them adds
abbrev pub CallsCompose : Type 0
CallsCompose =
    (o : Opening) (first middle last : PassView) (actions more : List Action) (doing then : Doing)
    (used more_used : Use)
    → Adds o first actions doing used middle
    → Adds o middle more then more_used last
    → Adds o first (actions ▷▷ more) then (both_uses used more_used) last

-- among the passes of a closed table at most one drew a given chain
abbrev pub ChainHasOnePass : Type 0
ChainHasOnePass =
    (o : Opening) (passes : List PassView) (left : Contents) (chain : ℕ) (one other : PassView)
    → ClosesTable o passes left
    → Contains passes one
    → Contains passes other
    → Contains one.drawn chain
    → Contains other.drawn chain
    → one ≡ other

-- a call's actions are for a drawn chain, if the pass's earlier actions are and its last chain is a
-- drawn one
abbrev pub CallsKeepDrawnChains : Type 0
CallsKeepDrawnChains =
    (o : Opening) (before after : PassView) (actions : List Action) (doing : Doing) (used : Use)
    → Contains before.drawn before.chain
    → IsOfDrawnChains before
    → Adds o before actions doing used after
    → IsOfDrawnChains after

-- a chain's events in the history are those that the pass which drew it made for it
abbrev pub ChainIsPartOfItsPass : Type 0
ChainIsPartOfItsPass =
    (o : Opening) (passes : List PassView) (left : Contents) (chain : ℕ) (v : PassView)
    (closing : ClosesTable o passes left)
    → ((w : PassView) → Contains passes w → IsOfDrawnChains w)
    → Contains passes v
    → Contains v.drawn chain
    → part_of_chain chain closing.history ≡ part_of_chain chain v.own
