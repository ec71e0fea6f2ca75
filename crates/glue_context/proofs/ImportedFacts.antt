-- What the items declare that bind names of modules and vendors, that each belongs into the file, and that they publish and define nothing.
use Rattle.glue_context.proofs.Common.{◌≡◌, ℕ, inl, inr, List, [], ◌∷◌, ◌++◌, Bool, true, refl, sym, ap, ◌∙◌, subst, codes, list_all, IsIn, AreDistinct, AreAmong, AreApart, Item, Settings, Lowered, Contents, described_hosts, bound_name, bound_names, published_by, fixed_by, defined_by, IsPrescribed, AllItems, Belongs, Context, Frame}
use Rattle.std.proofs.Common.{false, ◌⊎◌}
use Rattle.std.specs.Prelude.{◌&&◌}
use Rattle.std.proofs.lemmas.Bool.{and_parts}
use Rattle.glue_words.specs.declared.item.Role.TheVariants as role
use Rattle.glue_words.specs.Ident.{is_ident}
use Rattle.glue_words.proofs.Among.{among_by, among_in, apart_among}
use Rattle.glue_words.proofs.Fitting.{all_among}
use Rattle.glue_words.proofs.Linked.{names-append, names-one}
use Rattle.glue_shared.specs.declared.aux.WasmBindgenAux.{WasmBindgenAux}
use Rattle.glue_shared.specs.declared.import.JsImportName.{JsImportName}
use Rattle.glue_shared.specs.declared.import.JsImportName.TheVariants as js
use Rattle.glue_shared.specs.declared.name_map.NameMap.{NameMap}
use Rattle.glue_shared.specs.Names.{is_from_module}
use Rattle.glue_names.specs.Omitted.{name_where}
use Rattle.glue_targets.specs.Published.{IsNamed}
use Rattle.glue_lines.specs.declared.form.LineForm.{LineForm}
use Rattle.glue_lines.specs.Grouped.{Imported, AreImportLines}
use Rattle.glue_lines.specs.Vendor.{vendor_constant, vendor_names}
use Rattle.glue_lines.proofs.GroupedFacts as grouped
use Rattle.glue_lines.proofs.LineFacts.{entry_names, line_hosts, import_holds}
use Rattle.glue_lines.proofs.Shown.{HoldsOnly}
use Rattle.glue_lines.proofs.VendorFacts.{constant_belongs, constant_holds, tried_names}
use Rattle.glue_naming.specs.Listed.{names_drawn}
use Rattle.glue_context.specs.Defined.{HoldsFunction}
use Rattle.glue_context.specs.ImportedItems.{constant_of, vendor_item, vendor_items}
use Rattle.glue_context.proofs.Lists.{all_joined}
use Rattle.glue_context.proofs.ImportedNames.{each_kind, is_vendor_name, kind_distinct, kind_names, kinds_apart, names_of_kind, placed_are}
use Rattle.glue_published.specs.Reexports.{is_outside}

-- ---- an item that binds names of the outside

-- the item is an import, declares these names, takes these of the host, and holds no other
pub record IsImportItem (item : Item) : Type 0 where
  pub line : item.role ≡ role.Import
  pub bound : List (List ℕ)
  pub hosted : List (List ℕ)
  pub holds : HoldsOnly item.words bound hosted

-- its role asks for no text, and it publishes and defines nothing
module _ (item : Item) (is : IsImportItem item) where
  pub import_prescribed : (s : Settings) (starts : Bool) (frame : Frame) (before after : List Item) → IsPrescribed s starts frame before item after
  import_prescribed s starts frame before after = rw is.line tt

  pub import_published : published_by item ≡ []
  import_published = rw is.line refl

  pub import_fixed : fixed_by item ≡ []
  import_fixed = rw (is.line, is.holds.inner) refl

  pub import_defined : defined_by item.role ≡ []
  import_defined = rw is.line refl

  pub import_function : (s : Settings) (m : NameMap) (l : Lowered) (written : Contents) → HoldsFunction s m l written item.role item
  import_function s m l written = rw is.line tt

  pub import_named : (s : Settings) (aux : WasmBindgenAux) (items : List Item) → IsNamed s aux items item.role
  import_named s aux items = rw is.line tt

-- ---- vendor constants

constant_items : (n : JsImportName) (bound : List ℕ) → AllItems IsImportItem (constant_of n bound)
constant_items (js.VendorPrefixed name prefixes) bound = (
  record { line = refl; bound = bound ∷ []; hosted = tried_names (vendor_names name prefixes); holds = constant_holds bound name prefixes },
  tt,
)
constant_items other bound = tt

constant_bound : (n : JsImportName) (bound : List ℕ) → bound_names (constant_of n bound) ≡ name_where (is_vendor_name n) bound
constant_bound (js.VendorPrefixed name prefixes) bound =
    names-one bound_name (vendor_constant bound name prefixes) ∙ (constant_holds bound name prefixes).binds
constant_bound other bound = refl

-- they declare the names of those that have vendor prefixes
vendor_bound : (imports : List Imported) → bound_names (vendor_items imports) ≡ names_of_kind is_vendor_name imports
vendor_bound [] = refl
vendor_bound (import ∷ imports) =
    names-append bound_name (vendor_item import) (vendor_items imports)
    ∙ ap (λ (names : List (List ℕ)). names ++ bound_names (vendor_items imports)) (constant_bound import.0 import.1)
    ∙ ap (λ (names : List (List ℕ)). name_where (is_vendor_name import.0) import.1 ++ names) (vendor_bound imports)

-- the names of the host that a described name brings are identifiers, and known in the file
pub record AreHosts (c : Context) (n : JsImportName) : Type 0 where
  pub idents : list_all is_ident (described_hosts false n) ≡ true
  pub known : AreAmong (described_hosts false n) c.hosts

module _ (c : Context) (there : IsIn (codes "undefined") c.hosts) where
  constant_there : (n : JsImportName) (bound : List ℕ) → is_ident bound ≡ true → AreHosts c n
      → AllItems (λ item. Belongs c item.words) (constant_of n bound)
  constant_there (js.VendorPrefixed name prefixes) bound h k =
      (constant_belongs bound name prefixes c (ap (λ (b : Bool). b && list_all is_ident (vendor_names name prefixes)) h ∙ k.idents) k.known there, tt)
  constant_there other bound h k = tt

  vendor_belong : (imports : List Imported) → list_all is_ident (names_drawn imports) ≡ true
      → ((import : Imported) → IsIn import imports → AreHosts c import.0) → AllItems (λ item. Belongs c item.words) (vendor_items imports)
  vendor_belong [] h k = tt
  vendor_belong (import ∷ imports) h k =
      let parts = and_parts (is_ident import.1) (list_all is_ident (names_drawn imports)) h in
      all_joined (λ item. Belongs c item.words) (vendor_item import) (vendor_items imports)
      (constant_there import.0 import.1 parts.0 (k import (inl refl))) (vendor_belong imports parts.1 (λ x i. k x (inr i)))

-- ---- the items of described names, with the names that the file has for them

module _ (form : LineForm) (imports : List Imported) (lines : List Item) (are : AreImportLines form imports lines) where
  abbrev module_names : List (List ℕ)
  module_names = names_of_kind is_from_module imports

  abbrev constant_names : List (List ℕ)
  constant_names = names_of_kind is_vendor_name imports

  -- what lines and constants declare
  abbrev pub lines_names : List (List ℕ)
  lines_names = bound_names lines

  abbrev pub constants_names : List (List ℕ)
  constants_names = bound_names (vendor_items imports)

  lines_among : AreAmong lines_names module_names
  lines_among = subst (AreAmong lines_names) (placed_are imports) (grouped.lines_declare form imports lines are)

  -- each is an import, and holds no names but those that it declares and takes of the host
  pub lines_each : AllItems IsImportItem lines
  lines_each = grouped.lines_each form imports lines are IsImportItem (λ path entries. record {
    line = refl;
    bound = entry_names entries;
    hosted = line_hosts form;
    holds = import_holds form path entries;
  })

  pub constants_each : AllItems IsImportItem (vendor_items imports)
  constants_each = each imports
    where
      each : (imports : List Imported) → AllItems IsImportItem (vendor_items imports)
      each [] = tt
      each (import ∷ imports) =
          all_joined IsImportItem (vendor_item import) (vendor_items imports) (constant_items import.0 import.1) (each imports)

  -- they declare names of these imports, and no others
  pub lines_declare : AreAmong lines_names (names_drawn imports)
  lines_declare =
      among_by lines_names (names_drawn imports) (λ name at. kind_names is_from_module name imports (among_in name lines_names module_names lines_among at))

  pub constants_declare : AreAmong constants_names (names_drawn imports)
  constants_declare =
      among_by constants_names (names_drawn imports) (λ name at. kind_names is_vendor_name name imports (subst (IsIn name) (vendor_bound imports) at))

  -- a name of one that is no name of the host is declared by a line or a constant
  pub one_declares : (omitted : Bool) → ((import : Imported) → IsIn import imports → is_outside omitted import.0 ≡ false) → (name : List ℕ)
      → IsIn name (names_drawn imports)
      → IsIn name lines_names ⊎ IsIn name constants_names
  one_declares omitted none name at =
      let all : AreAmong module_names lines_names =
      subst (λ (names : List (List ℕ)). AreAmong names lines_names) (placed_are imports) (grouped.lines_declare_all form imports lines are) in
      elim (each_kind omitted name imports none at) [
        | inl here ↦ inl (among_in name module_names lines_names all here)
        | inr here ↦ inr (subst (IsIn name) (sym (vendor_bound imports)) here)
      ]

  -- each once, and none both, where the names are distinct
  module _ (d : AreDistinct (names_drawn imports)) where
    pub lines_distinct : AreDistinct lines_names
    lines_distinct = grouped.lines_distinct form imports lines are (subst AreDistinct (sym (placed_are imports)) (kind_distinct is_from_module imports d))

    pub constants_distinct : AreDistinct constants_names
    constants_distinct = subst AreDistinct (sym (vendor_bound imports)) (kind_distinct is_vendor_name imports d)

    pub lines_constants : AreApart lines_names constants_names
    lines_constants =
        subst (AreApart lines_names) (sym (vendor_bound imports))
        (apart_among lines_names module_names constant_names lines_among (kinds_apart imports d))

  -- they belong where the host gives what their form takes, `undefined`, and the names with prefixes, if all are identifiers
  module _ (c : Context) (idents : list_all is_ident (names_drawn imports) ≡ true) where
    pub lines_belong : AreAmong (line_hosts form) c.hosts → AllItems (λ item. Belongs c item.words) lines
    lines_belong known =
        let named = among_by module_names (names_drawn imports) (λ name at. kind_names is_from_module name imports at) in
        let entries = subst (λ (names : List (List ℕ)). list_all is_ident names ≡ true) (sym (placed_are imports))
        (all_among is_ident module_names (names_drawn imports) named idents) in
        grouped.lines_belong form imports lines are c entries known

    pub constants_belong : IsIn (codes "undefined") c.hosts → ((import : Imported) → IsIn import imports → AreHosts c import.0)
        → AllItems (λ item. Belongs c item.words) (vendor_items imports)
    constants_belong there hosts = vendor_belong c there imports idents hosts
