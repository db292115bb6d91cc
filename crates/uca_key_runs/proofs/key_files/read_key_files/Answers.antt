-- Without a book, and with one.
use Rattle.uca_key_runs.proofs.key_files.read_key_files.Goals as goal

pub returns-in-None-clause-read : goal.returns-in-None-clause-read
returns-in-None-clause-read g c = rw c.in-None.is c.read_two_files.ensures.read

pub returns-in-None-clause-failed : goal.returns-in-None-clause-failed
returns-in-None-clause-failed g c = rw c.in-None.is c.read_two_files.ensures.failed

pub returns-in-Some-clause-read : goal.returns-in-Some-clause-read
returns-in-Some-clause-read g c = rw c.in-Some.is c.read_three_files.ensures.read

pub returns-in-Some-clause-failed : goal.returns-in-Some-clause-failed
returns-in-Some-clause-failed g c = rw c.in-Some.is c.read_three_files.ensures.failed
