-- What the layers above need of the tree of a description: it is one, what stands in it, that nothing is refused where no two
-- things clash, where its namespaces are, and that its items publish the public tree.
pub use Rattle.glue_public.proofs.Grown.{tree_is}
-- an entry is a function's, an enum's or a re-export's
pub use Rattle.glue_public.proofs.Entries.{from_zip, each_zip, pairs, IsOf, OfFunction, OfEnum, OfReexport, function_in, qualified_of, was_put, is_put, entry_is, entry_in}
-- where no two things clash no definition is refused, and entries of one qualified name are one
pub use Rattle.glue_public.proofs.Unclashed.{HasItems, never_refused, same_qualified}
-- a namespace is printed at a root of the description
pub use Rattle.glue_public.proofs.Namespaces.{namespace_root}
-- items publish exactly the public tree
pub use Rattle.glue_public.proofs.Public.{tree_sound, public_items}
