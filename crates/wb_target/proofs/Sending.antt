-- What of a target may cross threads. Of the recursive types, the nodes of the mapping tree and the bit sets, Rattle tells rules
-- and no fact, and so none of what has one: a caller's search meets its limit in them.
use denote.RattleType.{RattleType}
use denote.Param.Send.{sendable, IsSend, IsSync}
use denote.Param.SendFields.{declared_send, declared_sync, as_row_send, as_row_sync}
use Rattle.std.proofs.Crossing.{crosses, Vec-send}
use Rattle.std.proofs.option.Option.TheSendSync as option
use Rattle.std.proofs.alloc.Global.TheSendSync as heap
use Rattle.std.specs.contracts.alloc.Global as Heap
use Rattle.std.specs.contracts.impls.GlobalAllocator.TheImpl.{ghosts}
use Rattle.wb_types.proofs.geometry.Geometry.TheSendSync as geometry
use Rattle.wb_types.proofs.mode.Mode.TheSendSync as mode
use Rattle.wb_types.proofs.number.CBlock.TheSendSync as cache_block
use Rattle.wb_bits.proofs.bit_set.BitSet.TheLaws.TheKnot.{crosses as bit_set}
use Rattle.wb_tree.proofs.tree.node.Node.TheLaws.TheKnot.{crosses as node}
use Rattle.wb_tree.specs.contracts.tree.Tree as Tree
use Rattle.wb_tree.specs.contracts.tree.Tree.TheInside as TreeInside
use Rattle.wb_space.specs.contracts.space.Space as Space
use Rattle.wb_orders.proofs.live_orders.LiveOrders.TheSendSync as orders
use Rattle.wb_policy.specs.declared.policy.Policy.{Ghosts}
use Rattle.wb_desk.specs.contracts.desk.Desk as Desk
use Rattle.wb_desk.specs.contracts.desk.Desk.TheInside as DeskInside
use Rattle.wb_port.proofs.seats.Seats.TheSendSync as seats
use Rattle.wb_target.specs.contracts.office.Office as Office
use Rattle.wb_target.specs.contracts.office.Office.TheInside as OfficeInside
use Rattle.wb_target.specs.contracts.target.Target as Target

space_sent : IsSend Space.the_row
space_sent = search (sendable, crosses, bit_set) depth 20

tree_fields_sent : IsSend (TreeInside.the_row Heap.the_row ghosts)
tree_fields_sent = declared_send (TreeInside.the_type Heap.the_row ghosts) (search (sendable, as_row_send, crosses), (search (sendable, as_row_send), (search (sendable, as_row_send), (search (sendable, as_row_send), (search (sendable, as_row_send, crosses, node, option.the_send) depth 20, tt)))))

tree_sent : IsSend (Tree.the_row Heap.the_row ghosts)
tree_sent = search (sendable, tree_fields_sent) depth 20

desk_fields_sent : (P : RattleType) (g : Ghosts P.Denot) → IsSend P → IsSend (DeskInside.the_row P g)
desk_fields_sent P g s = declared_send (DeskInside.the_type P g) (
  geometry.the_send,
  (
    mode.the_send,
    (
      tree_sent,
      (
        Vec-send _ (option.the_send _ cache_block.the_send),
        (
          search (sendable, crosses, bit_set) depth 20,
          (
            space_sent,
            (
              orders.the_send,
              (
                search (sendable, as_row_send, s),
                (
                  search (sendable, as_row_send, s),
                  (
                    search (sendable, as_row_send, s),
                    (
                      search (sendable, as_row_send, s),
                      (
                        search (sendable, as_row_send, s),
                        (
                          search (sendable, as_row_send, s),
                          (
                            search (sendable, as_row_send, s),
                            (
                              search (sendable, as_row_send, s),
                              (
                                search (sendable, as_row_send, s),
                                (search (sendable, as_row_send, s), (search (sendable, as_row_send, s), tt)),
                              ),
                            ),
                          ),
                        ),
                      ),
                    ),
                  ),
                ),
              ),
            ),
          ),
        ),
      ),
    ),
  ),
)

desk_sent : (P : RattleType) (g : Ghosts P.Denot) → IsSend P → IsSend (Desk.the_row P g)
desk_sent P g s = search (sendable, desk_fields_sent P g s) depth 20

office_fields_sent : (P : RattleType) (g : Ghosts P.Denot) → IsSend P → IsSend (OfficeInside.the_row P g)
office_fields_sent P g s = declared_send (OfficeInside.the_type P g) (desk_sent P g s, (seats.the_send, tt))

office_sent : (P : RattleType) (g : Ghosts P.Denot) → IsSend P → IsSend (Office.the_row P g)
office_sent P g s = search (sendable, office_fields_sent P g s) depth 20

-- what clients on threads share
pub target_shared : (P : RattleType) (g : Ghosts P.Denot) → IsSend P → IsSync (Target.the_row P g)
target_shared P g s =
    declared_sync (Target.the_type P g) (heap.the_sync, (mode.the_sync, (geometry.the_sync, (search (sendable, as_row_sync, crosses, office_sent P g s), (search (sendable, as_row_sync, crosses) depth 12, tt)))))
