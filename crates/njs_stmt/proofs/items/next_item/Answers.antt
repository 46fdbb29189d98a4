use Rattle.njs_stmt.proofs.items.next_item.Goals as goal

pub returns-else-is_export_at : goal.returns-else-is_export_at
returns-else-is_export_at c = c.statement.ensures c.args.exported
