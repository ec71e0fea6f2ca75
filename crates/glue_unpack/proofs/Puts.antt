-- Files that are put one after another.
use Rattle.std.proofs.Common.{◌≡◌, ℕ, ◌+◌, ◌<◌, ◌≤◌, List, [], ◌∷◌, ◌++◌, Option, Some, None, length, map, take, get_or, refl, sym, ap, ◌∙◌, subst, append_assoc, append-nil}
use Rattle.std.proofs.lemmas.List.{map_more, take_all}
use Rattle.glue_ends.specs.declared.plan.PlannedFile.{PlannedFile}
use Rattle.glue_unpack.specs.Putting.{put_of, Puts}
use Rattle.glue_unpack.specs.declared.file.PutFile.{PutFile}

pub puts_none : (a : Option (List PutFile)) → Puts a a []
puts_none None = tt
puts_none (Some files) = sym (append-nil files)

pub puts_both : (a b c : Option (List PutFile)) (xs ys : List PutFile) → Puts a b xs → Puts b c ys → Puts a c (xs ++ ys)
puts_both None b c xs ys p q = tt
puts_both (Some x) None c xs ys p q = absurd p
puts_both (Some x) (Some y) None xs ys p q = absurd q
puts_both (Some x) (Some y) (Some z) xs ys p q = q ∙ ap (λ l. l ++ ys) p ∙ append_assoc x xs ys

pub puts_kept : (a b c : Option (List PutFile)) (xs : List PutFile) → Puts a b xs → Puts b c [] → Puts a c xs
puts_kept a b c xs p q =
    let P : List PutFile → Type 0 = λ l. Puts a c l in
    subst P (append-nil xs) (puts_both a b c xs [] p q)

pub puts_next : (files : List PlannedFile) (i : ℕ) (file : PlannedFile) (a b c : Option (List PutFile)) → i < length files → file ≡ get_or files i file
    → Puts a b (map put_of (take i files)) → Puts b c (put_of file ∷ []) → Puts a c (map put_of (take (i + 1) files))
puts_next files i file a b c within read first next =
    let parts : map put_of (take (i + 1) files) ≡ map put_of (take i files) ++ put_of file ∷ [] =
    map_more put_of files i file within ∙ ap (λ f. map put_of (take i files) ++ put_of f ∷ []) (sym read) in
    let P : List PutFile → Type 0 = λ l. Puts a c l in
    subst P (sym parts) (puts_both a b c _ _ first next)

pub puts_all : (files : List PlannedFile) (i : ℕ) (a b : Option (List PutFile)) → length files ≤ i → Puts a b (map put_of (take i files)) → Puts a b (map put_of files)
puts_all files i a b end all =
    let P : List PlannedFile → Type 0 = λ l. Puts a b (map put_of l) in
    subst P (take_all i files end) all
