-- The items that bind the names which imports take of modules and vendors.
use Rattle.std.specs.Prelude.{ℕ, false, List, [], ◌∷◌}
use Rattle.std.specs.List.{flat_map}
use Rattle.glue_words.specs.declared.item.Item.{Item}
use Rattle.glue_shared.specs.declared.import.JsImportName.{JsImportName}
use Rattle.glue_shared.specs.declared.import.JsImportName.TheVariants.{VendorPrefixed}
use Rattle.glue_shared.specs.declared.settings.Target.{Target}
use Rattle.glue_shared.specs.declared.settings.Target.TheVariants as targets
use Rattle.glue_lines.specs.declared.form.LineForm.{LineForm}
use Rattle.glue_lines.specs.declared.form.LineForm.TheVariants.{Es, CommonJs}
use Rattle.glue_lines.specs.Grouped.{Imported}
use Rattle.glue_lines.specs.Vendor.{vendor_constant}

-- the form of the lines that take modules: by `require` in CommonJS, else by `import`
abbrev pub line_form : Target → LineForm
line_form (targets.Node false) = CommonJs
line_form other = Es

-- the constant of a name with vendor prefixes; none of another name
abbrev pub constant_of : JsImportName → List ℕ → List Item
constant_of (VendorPrefixed name prefixes) bound = vendor_constant bound name prefixes ∷ []
constant_of other bound = []

abbrev pub vendor_item : Imported → List Item
vendor_item import = constant_of import.0 import.1

-- the constants of names with vendor prefixes, in their order
abbrev pub vendor_items : List Imported → List Item
vendor_items imports = flat_map vendor_item imports
