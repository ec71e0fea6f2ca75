-- The order of names that imports begin with: it is total, and tells apart what differs.
use Rattle.std.proofs.Common.{◌≡◌, ℕ, List, true, true≢false, refl, sym, ap}
use Rattle.std.specs.FinSet as set
use Rattle.std.specs.declared.cmp.Ordering.{Ordering}
use Rattle.std.specs.declared.cmp.Ordering.TheVariants.{Less, Equal, Greater}
use Rattle.std.specs.Cmp.{IsTotalOrder, Equal-is}
use Rattle.std.specs.Cmp.Lexicographic.{slice_cmp}
use Rattle.std.specs.Ordering.{is_eq, nat_cmp, ordering_then}
use Rattle.glue_shared.specs.contracts.import.JsImportNameOrd.TheImpl.Laws as by_fields
use Rattle.glue_shared.specs.declared.import.JsImportName.{JsImportName}
use Rattle.glue_shared.specs.declared.import.JsImportName.TheVariants.{Global, Module, LocalModule, InlineJs, VendorPrefixed}
use Rattle.glue_published.specs.Reexports.{import_order, is_same}

-- texts by their bytes
abbrev text_order : List ℕ → List ℕ → Ordering
text_order = slice_cmp nat_cmp

pub import_order_total : IsTotalOrder import_order
import_order_total = by_fields.total-law

both_equal : (a b : Ordering) → is_eq (ordering_then a b) ≡ true → (a ≡ Equal) × (b ≡ Equal)
both_equal Less b h = absurd (true≢false (sym h))
both_equal Equal b h = (refl, (Equal-is b).0 h)
both_equal Greater b h = absurd (true≢false (sym h))

text_same : (x y : List ℕ) → text_order x y ≡ Equal → x ≡ y
text_same = set.slice_cmp-IsAntisymmetric set.nat_cmp-IsAntisymmetric

pub import_same : (x y : JsImportName) → is_same x y ≡ true → x ≡ y
import_same (Global a) (Global b) h = ap Global (text_same a b ((Equal-is (text_order a b)).0 h))
import_same (Module a b) (Module c d) h =
    let p = both_equal (text_order a c) (text_order b d) h in rw (text_same a c p.0, text_same b d p.1) refl
import_same (LocalModule a b) (LocalModule c d) h =
    let p = both_equal (text_order a c) (text_order b d) h in rw (text_same a c p.0, text_same b d p.1) refl
import_same (InlineJs a i b) (InlineJs c j d) h =
    let rest = ordering_then (nat_cmp i j) (text_order b d) in
    let p = both_equal (text_order a c) rest h in
    let q = both_equal (nat_cmp i j) (text_order b d) ((Equal-is rest).1 p.1) in
    rw (text_same a c p.0, set.nat_cmp-IsAntisymmetric i j q.0, text_same b d q.1) refl
import_same (VendorPrefixed a b) (VendorPrefixed c d) h =
    let p = both_equal (text_order a c) (slice_cmp text_order b d) h in
    rw (text_same a c p.0, set.slice_cmp-IsAntisymmetric text_same b d p.1) refl
import_same x y h = absurd (true≢false (sym h))
