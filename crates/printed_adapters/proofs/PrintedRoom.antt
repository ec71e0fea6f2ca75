-- Printed code takes room where the adapter of an export, of a pair or of a closure does.
use Rattle.std.proofs.Common.{◌≡◌, Bool, ◌||◌, ◌∙◌, ap}
use Rattle.std.specs.List.{flat_map, list_any}
use Rattle.std.proofs.lemmas.List.Folds.{list_any-append}
use Rattle.glue_shared.proofs.Texts.{list_any-flat_map}
use Rattle.glue_shared.specs.declared.description.Lowered.{Lowered}
use Rattle.glue_shared.specs.declared.settings.Settings.{Settings}
use Rattle.glue_shared.specs.Names.{own_imports}
use Rattle.glue_steps.specs.Room.{is_room, makes_room}
use Rattle.printed_adapters.specs.Printed.{code_by, export_code, outer_code, pair_code, used_closures, uses_shim}

pub taken_by_some : (s : Settings) (l : Lowered)
    → uses_shim s l
    ≡ ((list_any (λ e. makes_room (export_code l e)) l.aux.exports
    || list_any (λ pair. makes_room (pair_code (own_imports s l.«module» l.wit l.aux) l pair)) l.wit.implements)
    || list_any (λ id. makes_room (code_by l id)) (used_closures s l))
taken_by_some s l =
    let own = own_imports s l.«module» l.wit l.aux in
    let exported = flat_map (export_code l) l.aux.exports in
    let paired = flat_map (pair_code own l) l.wit.implements in
    let closed = flat_map (code_by l) (used_closures s l) in
    list_any-append is_room (outer_code s l) closed
    ∙ ap (λ (b : Bool). b || makes_room closed)
    (list_any-append is_room exported paired
    ∙ ap (λ (b : Bool). b || makes_room paired) (list_any-flat_map is_room (export_code l) l.aux.exports)
    ∙ ap (λ (b : Bool). list_any (λ e. makes_room (export_code l e)) l.aux.exports || b) (list_any-flat_map is_room (pair_code own l) l.wit.implements))
    ∙ ap (λ (b : Bool). (list_any (λ e. makes_room (export_code l e)) l.aux.exports || list_any (λ pair. makes_room (pair_code own l pair)) l.wit.implements) || b)
    (list_any-flat_map is_room (code_by l) (used_closures s l))
