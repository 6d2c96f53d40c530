use Rattle.dwc_tabs.proofs.OperationLaws.{left-behind}
use Rattle.dwc_tabs.proofs.operation.read_operation.Goals as goal

pub overflow_sub-unread : goal.overflow_sub-unread
overflow_sub-unread c = rw (c.left.ensures, c.unread-unread.ensures) (left-behind _ _ _ _ _ _ c.in_ok-opcode.ensures c.in_ok-first.ensures)
