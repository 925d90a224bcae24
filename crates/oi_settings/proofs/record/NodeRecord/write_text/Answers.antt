use Rattle.oi_settings.proofs.record.NodeRecord.write_text.Goals as goal

pub returns-else-is_err-clause-ok : goal.returns-else-is_err-clause-ok
returns-else-is_err-clause-ok c = rw (← c.self.view_is) c.append_text-done.ensures.ok
