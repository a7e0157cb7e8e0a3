-- A `&` to a `Seen` has the loan of the shown view, which can be copied. Assumes `Logic`.
use base.Logic.{snd∗}
use base.Before.{before}
use types.Logic.{sem}
use denote.RattleType.{RattleType}
use denote.Param.Laws.{Laws}
use denote.Param.Shared.{copy_shared}
use denote.Struct.Laws.{field_copy}
use denote.Struct.Lending.{of_Lends}
use Rattle.core.specs.contracts.marker.PhantomData as marker
use Rattle.fx_seen.specs.Kept.{seen_owns}
use Rattle.fx_seen.specs.contracts.Seen as C
use Rattle.fx_seen.proofs.Ghost.{seen_twice, lends_twice}
use Rattle.fx_seen.proofs.Seen.TheLaw.Statement.{statement}

pub shares : (V : RattleType) (L : Laws V) → statement V L
shares V L =
    of_Lends (C.struct V) (C.the_codes V.Denot V.coded (marker.the_row V).coded) (C.the_heap V) (C.the_lent V)
    (λ d p. record { contraction = λ M 𝓤 𝓛 κ. seen_twice 𝓛 V.coded.code d.table_id d.id d.view; mono = λ M 𝓤 𝓛 κ' κ. snd∗ 𝓤 (sem 𝓛 (before κ' κ)) (sem 𝓛 (seen_owns V.coded.code d.table_id d.id d.view)) })
    (copy_shared (marker.the_field V) (field_copy (marker.the_type V) tt), tt)
    (λ M 𝓤 𝓛 d p. lends_twice 𝓛 (seen_owns V.coded.code d.table_id d.id d.view) (seen_twice 𝓛 V.coded.code d.table_id d.id d.view) (C.the_row V).lives)
