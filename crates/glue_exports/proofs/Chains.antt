-- The words of the accesses behind a root.
use Rattle.std.proofs.Common.{◌≡◌, ℕ, Bool, true, false, cond, List, [], ◌∷◌, ◌++◌, flat_map, append_assoc, refl, sym, subst}
use Rattle.glue_words.specs.declared.word.Word.{Word}
use Rattle.glue_words.specs.declared.word.Word.TheVariants as w
use Rattle.glue_words.specs.declared.punct.TheConstants as punct
use Rattle.glue_words.specs.Ident.{is_ident}
use Rattle.glue_shared.specs.Paths.{Path}
use Rattle.glue_targets.specs.RoleWords.{access_words, access_chain}

-- what holds of words, and of words with an access before them where it holds of those, holds behind a path's accesses
module _ (P : List Word → Type 0)
    (dot : (name : List ℕ) (words : List Word) → is_ident name ≡ true → P words → P (w.Punct punct.DOT ∷ w.Prop name ∷ words))
    (bracket : (name : List ℕ) (words : List Word) → P words → P (w.Punct punct.OPEN_BRACKET ∷ w.Text name ∷ w.Punct punct.CLOSE_BRACKET ∷ words))
  where
    access_case : (b : Bool) (name : List ℕ) (words : List Word) → is_ident name ≡ b → P words
        → P (cond b (w.Punct punct.DOT ∷ w.Prop name ∷ []) (w.Punct punct.OPEN_BRACKET ∷ w.Text name ∷ w.Punct punct.CLOSE_BRACKET ∷ []) ++ words)
    access_case true name words e p = dot name words e p
    access_case false name words e p = bracket name words p

    accesses : (path : Path) (words : List Word) → P words → P (flat_map access_words path ++ words)
    accesses [] words p = p
    accesses (name ∷ path) words p =
        subst P (sym (append_assoc (access_words name) (flat_map access_words path) words))
        (access_case (is_ident name) name (flat_map access_words path ++ words) refl (accesses path words p))

    pub chain_each : (path : Path) (words : List Word) → P words → P (access_chain path ++ words)
    chain_each [] words p = p
    chain_each (first ∷ path) words p = accesses path words p
