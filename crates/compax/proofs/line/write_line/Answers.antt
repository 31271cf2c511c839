use Rattle.compax.proofs.line.write_line.Goals as goal

pub returns-in-BadInput : goal.returns-in-BadInput
returns-in-BadInput g c = rw c.in-BadInput.is c.write_bad_input.ensures

pub returns-in-ReadFault : goal.returns-in-ReadFault
returns-in-ReadFault g c = rw c.in-ReadFault.is c.write-in-ReadFault.ensures

pub returns-in-WriteFault : goal.returns-in-WriteFault
returns-in-WriteFault g c = rw c.in-WriteFault.is c.write-in-WriteFault.ensures

pub returns-in-LinkFault : goal.returns-in-LinkFault
returns-in-LinkFault g c = rw c.in-LinkFault.is c.write-in-LinkFault.ensures

pub returns-in-StoreFault : goal.returns-in-StoreFault
returns-in-StoreFault g c = rw c.in-StoreFault.is c.write_store_fault.ensures

pub returns-in-Turns : goal.returns-in-Turns
returns-in-Turns g c = rw c.in-Turns.is c.write-in-Turns.ensures

pub returns-in-BadStore : goal.returns-in-BadStore
returns-in-BadStore g c = rw c.in-BadStore.is c.write_bad_store.ensures

pub returns-in-NotFresh : goal.returns-in-NotFresh
returns-in-NotFresh g c = rw c.in-NotFresh.is c.write_not_fresh.ensures

pub returns-in-RecordFull : goal.returns-in-RecordFull
returns-in-RecordFull g c = rw c.in-RecordFull.is c.write-in-RecordFull.ensures
