-- The names that a text asks for and gives.
use Rattle.std.specs.Prelude.{ℕ, List, [], map}
use Rattle.glue_marked.specs.StandIns.{Names, name_for}

-- the names that words declare, in order, and those that they use: of the module's scope, of the host, and exports
pub record TextNames : Type 0 where
  pub binds : List (List ℕ)
  pub uses : List (List ℕ)
  pub hosts : List (List ℕ)
  pub takes : List (List ℕ)

-- the names of a text whose items declare these, use these and these of the host, and take no export
abbrev pub plain_names : (binds uses hosts : List (List ℕ)) → TextNames
plain_names binds uses hosts = record { binds = binds; uses = uses; hosts = hosts; takes = [] }

-- the names of a text with names for its stand-ins, and with exports for theirs
abbrev pub renamed_names : Names → Names → TextNames → TextNames
renamed_names names exports t = record {
  binds = map (name_for names) t.binds;
  uses = map (name_for names) t.uses;
  hosts = map (name_for names) t.hosts;
  takes = map (name_for exports) t.takes;
}
