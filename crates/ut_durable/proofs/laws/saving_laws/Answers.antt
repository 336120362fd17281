use Rattle.ut_durable.proofs.SavingLemmas as law
use Rattle.ut_durable.proofs.laws.saving_laws.Goals as goal

pub returns : goal.returns
returns g c = record {
  append = law.append_is_stored g.D.Disk.view;
  switch = law.switch_is_stored g.D.Disk.view;
  begin = law.begin_is_stored g.D.Disk.view;
  next = law.next_may_be_written g.D.Disk.view;
  page = law.page_is_stored g.D.Disk.view;
  seal = law.seal_is_stored g.D.Disk.view;
  flip = law.flip_is_stored g.D.Disk.view;
  drop = law.drop_is_stored g.D.Disk.view;
}
