use Rattle.oi_names.proofs.Readings as readings
use Rattle.oi_names.proofs.laws.portal_texts_read_once.Goals as goal

pub returns-clause-word : goal.returns-clause-word
returns-clause-word c = readings.word

pub returns-clause-reading : goal.returns-clause-reading
returns-clause-reading c = readings.reading

pub returns-clause-once : goal.returns-clause-once
returns-clause-once c = readings.once

pub returns-clause-written : goal.returns-clause-written
returns-clause-written c = readings.written

pub returns-clause-again : goal.returns-clause-again
returns-clause-again c = readings.again
