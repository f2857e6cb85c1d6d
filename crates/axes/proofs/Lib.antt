mod Tests
