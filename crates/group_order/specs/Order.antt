-- The order of the events of a group's nodes.
use Rattle.std.specs.Prelude.{◌≡◌, ℕ, suc, ◌<◌, Bool, true, ◌==◌, ◌&&◌, ◌||◌, nat_lt, List, [], ◌∷◌, ◌++◌, map, filter, slice_set, Option, Some, None, if◌then◌else◌}
use Rattle.std.specs.List.{AllByRecursion, slice_index_or}
use Rattle.group_order.specs.Heads.{AreNoHeads, IsFirstNode}

-- an event of a node
pub record NodeEvent (A : Type 0) : Type 0 where
  pub node : ℕ
  pub entry : A

module _ {A : Type 0} where
  abbrev pub node_event : ℕ → A → NodeEvent A
  node_event node x = record { node = node; entry = x }

  -- the events of all nodes from this one on, node after node
  abbrev pub events_from : ℕ → List (List A) → List (NodeEvent A)
  events_from node [] = []
  events_from node (xs ∷ lists) = map (node_event node) xs ++ events_from (suc node) lists

  -- what a node has among these events
  abbrev pub of_node : ℕ → List (NodeEvent A) → List A
  of_node node events = map (λ e. e.entry) (filter (λ e. e.node == node) events)

  -- the list of a node
  abbrev pub list_of : List (List A) → ℕ → List A
  list_of lists node = slice_index_or lists node []

module _ {A : Type 0} (clock : A → ℕ) where
  -- by clock, and then by node
  abbrev pub event_precedes : NodeEvent A → NodeEvent A → Bool
  event_precedes a b = nat_lt (clock a.entry) (clock b.entry) || ((clock a.entry == clock b.entry) && nat_lt a.node b.node)

  -- the event in its place in a sorted list
  abbrev pub insert_event : NodeEvent A → List (NodeEvent A) → List (NodeEvent A)
  insert_event a [] = a ∷ []
  insert_event a (b ∷ events) = if event_precedes b a then b ∷ insert_event a events else a ∷ b ∷ events

  abbrev pub sort_events : List (NodeEvent A) → List (NodeEvent A)
  sort_events [] = []
  sort_events (a ∷ events) = insert_event a (sort_events events)

  -- all events of all nodes, by clock and then by node
  abbrev pub order_of_events : List (List A) → List (NodeEvent A)
  order_of_events lists = sort_events (events_from 0 lists)

  -- each event precedes all those after it
  abbrev pub IsSorted : List (NodeEvent A) → Type 0
  IsSorted [] = Unit {0}
  IsSorted (a ∷ events) = AllByRecursion (λ b. event_precedes a b ≡ true) events × IsSorted events

  -- the events are those of these lists, each list's in their own order, and sorted
  pub record IsOrder (lists : List (List A)) (events : List (NodeEvent A)) : Type 0 where
    pub sorted : IsSorted events
    pub own : (node : ℕ) → of_node node events ≡ list_of lists node

  -- each clock is above that of all before it
  abbrev pub ClocksRise : List A → Type 0
  ClocksRise [] = Unit {0}
  ClocksRise (x ∷ xs) = AllByRecursion (λ y. clock x < clock y) xs × ClocksRise xs

  -- the clock of the first, if there is one
  abbrev pub first_clock : List A → Option ℕ
  first_clock [] = None
  first_clock (x ∷ xs) = Some (clock x)

  abbrev pub first_clocks : List (List A) → List (Option ℕ)
  first_clocks lists = map first_clock lists

  -- the first event of the order is the first of this node, and the order of what is left follows it
  pub record OrderBeginsWith (lists : List (List A)) (node : ℕ) : Type 0 where
    pub entry : A
    pub rest : List A
    pub list : list_of lists node ≡ entry ∷ rest
    pub rises : AllByRecursion ClocksRise (slice_set lists node rest)
    pub order : order_of_events lists ≡ node_event node entry ∷ order_of_events (slice_set lists node rest)

  -- the order is the one list with these facts, and it is made by taking the first event of the node that
  -- comes next, again and again
  pub record IsMergedOrder (lists : List (List A)) : Type 0 where
    pub is : IsOrder lists (order_of_events lists)
    pub only : (events : List (NodeEvent A)) → IsOrder lists events → events ≡ order_of_events lists
    pub begins : (node : ℕ) → IsFirstNode (first_clocks lists) node → OrderBeginsWith lists node
    pub ends : AreNoHeads (first_clocks lists) → order_of_events lists ≡ []

abbrev pub AreMergedOrders : Type 0 → Type 0
AreMergedOrders A = (clock : A → ℕ) (lists : List (List A)) → AllByRecursion (ClocksRise clock) lists → IsMergedOrder clock lists
