pub mod ImageTables
