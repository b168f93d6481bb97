use Rattle.rnv_desired.proofs.edited.edit_text.Goals as goal

pub returns-in-Cargo-clause-edited : goal.returns-in-Cargo-clause-edited
returns-in-Cargo-clause-edited c = rw c.in-Cargo.is c.edit.ensures.edited

pub returns-in-Cargo-clause-not_read_back : goal.returns-in-Cargo-clause-not_read_back
returns-in-Cargo-clause-not_read_back c = rw c.in-Cargo.is c.edit.ensures.not_read_back

pub returns-in-Npm-clause-edited : goal.returns-in-Npm-clause-edited
returns-in-Npm-clause-edited c = rw c.in-Npm.is c.edit-in-Npm.ensures.edited

pub returns-in-Npm-clause-not_read_back : goal.returns-in-Npm-clause-not_read_back
returns-in-Npm-clause-not_read_back c = rw c.in-Npm.is c.edit-in-Npm.ensures.not_read_back
