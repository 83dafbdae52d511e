-- What contracts see of the links, and what is true of them. Own.
use Rattle.std.specs.Prelude.{slice_index}
use Rattle.bd_links.specs.declared.links.Links.TheInside.{Inside}
use Rattle.bd_links.specs.Linked.{Linked, linked_lists, IsSpelled}

abbrev pub linked_of : Inside → Linked
linked_of a = record { nodes = a.nodes; joins = a.joins; lists = linked_lists (slice_index a.ring.next.items) a.nodes }

abbrev pub AreLinks : Inside → Type 0
AreLinks a = IsSpelled a.ring.next.items a.ring.prev.items a.marks.items a.nodes a.joins (linked_lists (slice_index a.ring.next.items) a.nodes)
